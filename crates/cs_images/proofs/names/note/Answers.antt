-- A name takes a place where it has none.
use Rattle.std.proofs.Common.{◌≡◌, false, bytes_eq, rules}
use Rattle.std.specs.Prelude.{is_some}
use Rattle.std.specs.HashMap.{get_by}
use Rattle.std.proofs.lemmas.Map.Text.{hash_map_updates_str}
use Rattle.cs_images.proofs.NameLemmas.{noted_now}
use Rattle.cs_images.proofs.names.note.Goals as goal

pub returns-in_ok-insert : goal.returns-in_ok-insert
returns-in_ok-insert c = λ n.
    let absent : is_some (get_by (λ k. bytes_eq c.args.name.now k.now) c.args.places.now) ≡ false = search rules in
    noted_now (λ m. get_by (λ k. bytes_eq m k.now) c.args.places.now) c.args.name.now n c.args.place
    (get_by (λ k. bytes_eq n k.now) c.insert.new.self) absent
    (hash_map_updates_str c.args.name.now c.args.places.now c.insert.new.self _ c.in_ok-insert.ensures.updates n)
