-- Images for two contexts of a memory of four words of two bits, and what refuses them.
use Rattle.std.proofs.Common.{◌≡◌, ℕ, List, [], ◌∷◌, true, false, Some, None, Ok, Err, codes, refl}
use Rattle.serde_json.specs.Data.{Data, Items, item, member, no_items, no_members, number, object, array, string, unsigned}
use Rattle.cs_cells.specs.Memories.{Words}
use Rattle.cs_json.specs.declared.document.Datum.TheVariants.{Digits}
use Rattle.cs_net.specs.Contexts.{Image}
use Rattle.cs_modules.specs.Words.{image_words}
use Rattle.cs_images.specs.declared.named.NamedImages.{NamedImages}
use Rattle.cs_images.specs.Images.{image_bits, images_of}
use Rattle.cs_images.specs.Names.{first_faulty}
use Rattle.cs_images.specs.Said.{HasOtherCount, NamesNoMemory, fault_of}
use Rattle.cs_images.specs.Shape.{written}

-- a file of version 1 with the texts of one memory
file : List ℕ → Items → Data
file name texts =
    object (member (codes "images") (object (member name (array texts) no_members))
    (member (codes "version") (number (unsigned 1)) no_members))

-- `{"images":{"m":["00001000","00000100"]},"version":1}`
two_contexts : Data
two_contexts = file (codes "m") (item (string (codes "00001000")) (item (string (codes "00000100")) no_items))

named : List NamedImages
named = record {
  name = codes "m";
  texts = Digits (codes "00001000") ∷ Digits (codes "00000100") ∷ [];
} ∷ []

says_two_texts : written two_contexts ≡ Ok named
unfolding written two_contexts file named
says_two_texts = refl

-- four words of two bits
words : Words
words = (false ∷ false ∷ []) ∷ (false ∷ false ∷ []) ∷ (false ∷ false ∷ []) ∷ (false ∷ false ∷ []) ∷ []

-- word 1 is 2 in context 0, and 1 in context 1
first_image : Image
first_image = false ∷ false ∷ false ∷ true ∷ false ∷ false ∷ false ∷ false ∷ []

second_image : Image
second_image = false ∷ false ∷ true ∷ false ∷ false ∷ false ∷ false ∷ false ∷ []

images_of_m : images_of named (record { name = codes "m"; words = words }) ≡ Some (first_image ∷ second_image ∷ [])
unfolding named words first_image second_image
images_of_m = refl

second_words : image_words words second_image ≡ (false ∷ false ∷ []) ∷ (true ∷ false ∷ []) ∷ (false ∷ false ∷ []) ∷ (false ∷ false ∷ []) ∷ []
unfolding words second_image
second_words = refl

-- a memory that isn't named has none
images_of_n : images_of named (record { name = codes "n"; words = words }) ≡ None
unfolding named words
images_of_n = refl

-- digits that are missing are 0, and so is every character but `1`; those past the last bit say nothing
short_and_long : image_bits ((false ∷ false ∷ []) ∷ []) (Digits (codes "x")) ≡ false ∷ false ∷ []
short_and_long = refl

past_the_last : image_bits ((false ∷ false ∷ []) ∷ []) (Digits (codes "0110")) ≡ false ∷ true ∷ []
past_the_last = refl

none_faulty : first_faulty (codes "m" ∷ []) 2 named ≡ None
unfolding named
none_faulty = refl

-- ---- refused images

-- `{"images":{"m":["0"]},"version":1}`
one_text : NamedImages
one_text = record { name = codes "m"; texts = Digits (codes "0") ∷ [] }

says_one_text : written (file (codes "m") (item (string (codes "0")) no_items)) ≡ Ok (one_text ∷ [])
unfolding written file one_text
says_one_text = refl

another_count : first_faulty (codes "m" ∷ []) 2 (one_text ∷ []) ≡ Some one_text
unfolding one_text
another_count = refl

has_one_image : fault_of (codes "m" ∷ []) one_text ≡ HasOtherCount (codes "m") 1
unfolding one_text
has_one_image = refl

-- `{"images":{"g":[]},"version":1}`
names_a_gate : fault_of (codes "m" ∷ []) (record { name = codes "g"; texts = [] }) ≡ NamesNoMemory (codes "g")
names_a_gate = refl

-- the empty object is refused at its images, and what is no list at its name
empty_file : written (object no_members) ≡ Err (codes "/images")
unfolding written
empty_file = refl

no_list : written (object (member (codes "images") (object (member (codes "m") (number (unsigned 1)) no_members)) no_members)) ≡ Err (codes "/images/m")
unfolding written
no_list = refl
