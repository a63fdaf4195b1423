-- Lemmas on names and on the bits of images.
mod NameLemmas
mod ImageLemmas
mod Examples
mod WordLemmas
