-- `slow`: one answer, and what stands afterwards.
use Rattle.std.proofs.Common.{◌≡◌, ◌∙◌, ℕ, List, [], ◌∷◌, None, Option, Some, ap, ap₂, arith, inl, inr, refl, subst, sym}
use Rattle.std.specs.Prelude.{◌==◌, if◌then◌else◌}
use Rattle.cs_images.specs.Said.{Says}
use Rattle.cs_interleave.specs.InterleaveFaults.{interleave_fault}
use Rattle.cs_io.specs.Stores.{Files, StoreState}
use Rattle.cs_isolate.specs.Isolating.{HasIsolating}
use Rattle.cs_json.specs.Printed.{printed}
use Rattle.cs_json.specs.Shape.{Says as SaysDocument, document}
use Rattle.cs_net.specs.declared.images.Images.{Images}
use Rattle.cs_net.specs.Netlist.{Net}
use Rattle.cs_report.specs.declared.fault.Fault.{Fault}
use Rattle.cs_share.proofs.OneEmission.{one_emission}
use Rattle.cs_words.specs.declared.command.Command.TheVariants.{Slow}
use Rattle.cs_words.specs.declared.command.SlowWords.{SlowWords}
use Rattle.cs_run.specs.declared.inputs.Input.{Input}
use Rattle.cs_run.specs.declared.inputs.Role.TheVariants.{Images as ImagesRole, In}
use Rattle.cs_run.specs.declared.reply.Reply.{Reply}
use Rattle.cs_run.specs.declared.status.Status.TheVariants.{Limit}
use Rattle.cs_run.specs.Bytes.{IsNetlistOf}
use Rattle.cs_run.specs.Inputs.{FilesHave, bytes_of, file, found_bytes, number_of}
use Rattle.cs_run.specs.Promises.{HasInput}
use Rattle.cs_run.specs.Reasons.{Reason}
use Rattle.cs_run.specs.Runs.{HasAnswer, Run}
use Rattle.cs_run.specs.Slow.{AnswersNet, Builds, BuildsIsolate, BytesIsolate, CouldNotWriteOut, ExceedsLimit, HasWritten, IsBuilt, IsBuiltFor, MakesSlow, RefusesNet, RefusesSlow, images_reads, slow_reads}
use Rattle.cs_run.specs.Starts.{HoldsBytes, TellsBytes, images_by, images_refusal}
use Rattle.cs_run.specs.Statuses.{status_of}
use Rattle.cs_run.specs.Worlds.{World, file_in}
use Rattle.cs_run.proofs.BytesLemmas.{bytes_isolate}
use Rattle.cs_run.proofs.Ends.{Finished, Unfinished}
use Rattle.cs_run.proofs.InputLemmas.{at_role}
use Rattle.cs_run.proofs.ReasonLemmas.{netlist_status, one_net, sound}
use Rattle.cs_run.proofs.StartLemmas.{one_start, says_starts}
use Rattle.cs_run.proofs.WorldLemmas.{AreNamed, has_at, puts_nothing, told_file, unwritten_one, wrote_one}

-- ---- one answer

one_built_for : (contexts : ℕ) (net : Net) (starts : Images) (written other : List ℕ) → IsBuiltFor contexts net starts written →
    IsBuiltFor contexts net starts other → written ≡ other
one_built_for contexts net starts written other a b =
    a.is ∙ ap printed (one_emission _ _ a.doc b.doc a.slowed b.slowed) ∙ sym b.is

-- what is built of bytes is built of their one netlist and its one images
built_of : (contexts : ℕ) (input : List ℕ) (images : Option (List ℕ)) (net : Net) (starts : Images) (written : List ℕ) → IsNetlistOf input net →
    images_by net contexts images ≡ Says starts → IsBuilt contexts input images written → IsBuiltFor contexts net starts written
built_of contexts input images net starts written of_net says b =
    let same = one_net input b.net net b.of_read of_net in
    let there : images_by net contexts images ≡ Says b.starts = subst (λ n. images_by n contexts images ≡ Says b.starts) same b.says in
    subst (λ s. IsBuiltFor contexts net s written) (one_start net contexts images b.starts starts there says)
    (subst (λ n. IsBuiltFor contexts n b.starts written) same b.built)

pub one_built : (contexts : ℕ) (input : List ℕ) (images : Option (List ℕ)) (written other : List ℕ) → IsBuilt contexts input images written →
    IsBuilt contexts input images other → written ≡ other
one_built contexts input images written other a b =
    one_built_for contexts a.net a.starts written other a.built (built_of contexts input images a.net a.starts other a.of_read a.says b)

-- what is built of bytes whose netlist is answered isolates them
pub builds_isolate : (words : SlowWords) (input : List ℕ) (images : Option (List ℕ)) (net : Net) (reply : Reply) → IsNetlistOf input net →
    AnswersNet words net images reply → BuildsIsolate words.contexts input images
builds_isolate words input images net reply of_net answers netlist b =
    let made = answers.writes in
    let here = built_of words.contexts input images net answers.starts netlist of_net answers.says b in
    let same : made.netlist ≡ netlist = one_built_for words.contexts net answers.starts made.netlist netlist made.built here in
    bytes_isolate words.contexts input images netlist net answers.starts made.built.doc of_net answers.says made.isolates
    (subst (λ n. document n ≡ SaysDocument made.built.doc) same made.read_again)

-- what a netlist is answered is what its bytes are
pub makes_of : (words : SlowWords) (input : List ℕ) (images : Option (List ℕ)) (net : Net) (reply : Reply) → IsNetlistOf input net →
    AnswersNet words net images reply → MakesSlow words input images reply
makes_of words input images net reply of_net answers = record {
  netlist = answers.writes.netlist;
  built = record { net = net; of_read = of_net; starts = answers.starts; says = answers.says; built = answers.writes.built };
  is = answers.writes.is;
}

too_large_apart : (contexts : ℕ) (net : Net) (starts : Images) (fault : Fault) → interleave_fault net starts contexts ≡ None →
    ExceedsLimit contexts net starts fault → ⊥
too_large_apart contexts net starts fault within other = let both : None ≡ Some other.limit = sym within ∙ other.exceeds in absurd (cc)

net_apart : (contexts : ℕ) (net : Net) (images : Option (List ℕ)) (starts : Images) (fault : Fault) → images_by net contexts images ≡ Says starts →
    interleave_fault net starts contexts ≡ None → RefusesNet contexts net images fault → ⊥
net_apart contexts net images starts fault says within (inl none) = says_starts net contexts images starts fault says none
net_apart contexts net images starts fault says within (inr large) =
    too_large_apart contexts net starts fault within
    (subst (λ s. ExceedsLimit contexts net s fault) (one_start net contexts images large.starts starts large.says says) large.exceeds)

pub slow_apart : (words : SlowWords) (input : List ℕ) (images : Option (List ℕ)) (reply : Reply) (fault : Fault) → MakesSlow words input images reply →
    RefusesSlow words.contexts input images fault → ⊥
slow_apart words input images reply fault makes (inl says) = sound input makes.built.net fault makes.built.of_read says
slow_apart words input images reply fault makes (inr other) =
    let built = makes.built in
    net_apart words.contexts built.net images built.starts fault built.says built.built.within
    (subst (λ n. RefusesNet words.contexts n images fault) (one_net input other.net built.net other.of_read built.of_read) other.refuses)

limit_status : (contexts : ℕ) (net : Net) (starts : Images) (fault : Fault) → ExceedsLimit contexts net starts fault → status_of fault ≡ Limit
limit_status contexts net starts fault large = ap status_of large.is

refused_status : (contexts : ℕ) (net : Net) (images : Option (List ℕ)) (a b : Reason) → RefusesNet contexts net images a.fault →
    RefusesNet contexts net images b.fault → status_of a.fault ≡ status_of b.fault
refused_status contexts net images a b (inl h) (inl k) =
    let both : Some a.fault ≡ Some b.fault = sym h ∙ k in let same : a.fault ≡ b.fault = cc in ap status_of same
refused_status contexts net images a b (inl h) (inr k) = absurd (says_starts net contexts images k.starts a.fault k.says h)
refused_status contexts net images a b (inr h) (inl k) = absurd (says_starts net contexts images h.starts b.fault h.says k)
refused_status contexts net images a b (inr h) (inr k) =
    limit_status contexts net h.starts a.fault h.exceeds ∙ sym (limit_status contexts net k.starts b.fault k.exceeds)

pub slow_status : (contexts : ℕ) (input : List ℕ) (images : Option (List ℕ)) (a b : Reason) → RefusesSlow contexts input images a.fault →
    RefusesSlow contexts input images b.fault → status_of a.fault ≡ status_of b.fault
slow_status contexts input images a b (inl h) (inl k) = netlist_status input a b h k
slow_status contexts input images a b (inl h) (inr k) = absurd (sound input k.net a.fault k.of_read h)
slow_status contexts input images a b (inr h) (inl k) = absurd (sound input h.net b.fault h.of_read k)
slow_status contexts input images a b (inr h) (inr k) =
    refused_status contexts h.net images a b h.refuses
    (subst (λ n. RefusesNet contexts n images b.fault) (one_net input k.net h.net k.of_read h.of_read) k.refuses)

pub slow_names : (words : SlowWords) (input : List ℕ) (images : Option (List ℕ)) (reply : Reply) → MakesSlow words input images reply →
    AreNamed (words.output ∷ []) reply.writes
slow_names words input images reply makes =
    subst (λ (r : Reply). AreNamed (words.output ∷ []) r.writes) (sym makes.is) ((0, omega arith, refl), tt)

-- ---- what stands afterwards

-- the images' file has what was read of it
images_read : (files : Option Files) (name : List ℕ) (images : Option (List ℕ)) (inputs : List Input) →
    FilesHave files (file In name ∷ images_reads images) inputs → HoldsBytes files images (found_bytes ImagesRole inputs)
images_read files name images [] have = absurd have
images_read files name None (input ∷ []) have =
    subst (λ r. (if number_of r == number_of ImagesRole then Some input.bytes else None) ≡ None) (sym have.0) refl
images_read files name None (input ∷ more ∷ inputs) have = absurd have.3
images_read files name (Some image) (input ∷ []) have = absurd have.3
images_read files name (Some image) (input ∷ other ∷ []) have = (
  other.bytes,
  ap₂ (λ r s. if number_of r == number_of ImagesRole then Some input.bytes
      else if number_of s == number_of ImagesRole then Some other.bytes else None) have.0 have.3.0,
  have.3.1,
)
images_read files name (Some image) (input ∷ other ∷ more ∷ inputs) have = absurd have.3.3

builds : (slow : SlowWords) (old : World) (reply : Reply) (answer : HasAnswer (Slow slow) old.store reply) →
    Builds old.store.files slow answer.holds.0.netlist
builds slow old reply answer = record {
  bytes = bytes_of In answer.inputs;
  images = found_bytes ImagesRole answer.inputs;
  input = at_role old.store.files (slow_reads slow) answer.inputs In slow.input answer.have refl;
  images_file = images_read old.store.files slow.input slow.images answer.inputs answer.have;
  built = answer.holds.0.built;
  isolates = answer.holds.1 answer.holds.0.netlist answer.holds.0.built;
}

pub slow_done : (slow : SlowWords) (old new : World) → Finished (Slow slow) old new → HasWritten slow old new
slow_done slow old new f =
    let makes = f.answer.holds.0 in
    let left = wrote_one old new f.reply slow.output makes.netlist [] makes.is f.store f.sink in
    record { netlist = makes.netlist; builds = builds slow old f.reply f.answer; writes = record { store = left.0; sink = left.1 } }

pub slow_unwritten : (slow : SlowWords) (old new : World) → Unfinished (Slow slow) old new → CouldNotWriteOut slow old new
slow_unwritten slow old new f =
    let makes = f.answer.holds.0 in
    let left = unwritten_one old new f.reply slow.output makes.netlist [] makes.is f.stops in
    record { netlist = makes.netlist; builds = builds slow old f.reply f.answer; store = left.0; sink = puts_nothing old.sink new.sink left.1 }

-- ---- what OUT holds

-- the bytes that `slow` read are those that the store tells
same_bytes : (run : Run) (slow : SlowWords) (bytes netlist : List ℕ) (images : Option (List ℕ)) → HasInput run slow bytes images →
    (builds : Builds run.old.store.files slow netlist) → builds.bytes ≡ bytes
same_bytes run slow bytes netlist images input builds =
    sym (has_at run.old.store.files slow.input bytes (λ found. found ≡ builds.bytes) input.input builds.input)

one_images : (files : Option Files) (name : Option (List ℕ)) (found images : Option (List ℕ)) → HoldsBytes files name found →
    TellsBytes files name images → found ≡ images
one_images files None found images h k = h ∙ sym k
one_images files (Some name) found images h k =
    h.1 ∙ ap (λ b. Some b) (sym (has_at files name k.0 (λ b. b ≡ h.0) k.2 h.2)) ∙ sym k.1

-- what was built is built of the bytes that the store tells
told_built : (run : Run) (slow : SlowWords) (bytes netlist : List ℕ) (images : Option (List ℕ)) → HasInput run slow bytes images →
    Builds run.old.store.files slow netlist → IsBuilt slow.contexts bytes images netlist × BytesIsolate slow.contexts bytes images netlist
told_built run slow bytes netlist images input builds =
    let read = same_bytes run slow bytes netlist images input builds in
    let starts = one_images run.old.store.files slow.images builds.images images builds.images_file input.images_file in (
      subst (λ b. IsBuilt slow.contexts b images netlist) read (subst (λ i. IsBuilt slow.contexts builds.bytes i netlist) starts builds.built),
      subst (λ b. BytesIsolate slow.contexts b images netlist) read
          (subst (λ i. BytesIsolate slow.contexts builds.bytes i netlist) starts builds.isolates),
    )

pub slow_output : (run : Run) (slow : SlowWords) (bytes netlist : List ℕ) (images : Option (List ℕ)) → HasInput run slow bytes images →
    HasWritten slow run.old run.new → IsBuilt slow.contexts bytes images netlist → file_in run.new.store.files slow.output ≡ Some (Some netlist)
slow_output run slow bytes netlist images input did is_built =
    ap (λ (s : StoreState). file_in s.files slow.output) did.writes.store
    ∙ told_file run.old.store.files slow.output slow.input bytes did.netlist input.input
    ∙ ap (λ n. Some (Some n))
    (one_built slow.contexts bytes images did.netlist netlist (told_built run slow bytes did.netlist images input did.builds).0 is_built)

pub slow_isolates : (run : Run) (slow : SlowWords) (bytes netlist : List ℕ) (images : Option (List ℕ)) → HasInput run slow bytes images →
    HasWritten slow run.old run.new → file_in run.new.store.files slow.output ≡ Some (Some netlist) → BytesIsolate slow.contexts bytes images netlist
slow_isolates run slow bytes netlist images input did holds =
    let built = told_built run slow bytes did.netlist images input did.builds in
    let there : Some (Some did.netlist) ≡ Some (Some netlist) =
    sym (slow_output run slow bytes did.netlist images input did built.0) ∙ holds in
    let one : did.netlist ≡ netlist = cc in
    subst (λ n. BytesIsolate slow.contexts bytes images n) one built.1
