use Rattle.cs_images.proofs.WordLemmas as lemma
use Rattle.cs_images.proofs.laws.words_of_an_image.Goals as goal

pub returns-clause-image : goal.returns-clause-image
returns-clause-image c = lemma.words_of_an_image
