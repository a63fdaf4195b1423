-- Pins that have the names of a type's pins, one bit each, are its pins.
use Rattle.std.proofs.Common.{◌≡◌, ℕ, List, [], ◌∷◌, map, length, Bool, true, false, ◌&&◌, ◌||◌, cond, Some, refl, sym, ap, ap₂, ◌∙◌, eq-eqb}
use Rattle.std.specs.Prelude.{find, option_map, unwrap_or, is_some, bytes_eq, ◌==◌}
use Rattle.std.specs.List.{AllByRecursion, list_any}
use Rattle.cs_json.specs.declared.document.PinDecl.{PinDecl}
use Rattle.cs_modules.specs.Pins.{Widths, has_pin, has_pins, is_pin_of, width_at}
use Rattle.cs_circuit.proofs.Lists.{all_pass, all_step}
use Rattle.cs_circuit.proofs.Orders.{same_bytes}

one_wide : (ws : Widths) (name : List ℕ) → AllByRecursion (λ (w : List ℕ × ℕ). w.1 ≡ 1) ws
    → list_any (λ n. bytes_eq n name) (map (λ (w : List ℕ × ℕ). w.0) ws) ≡ true → width_at ws name ≡ Some 1
one_wide [] name wide among = absurd (cc)
one_wide (w ∷ ws) name wide among =
    elim (bytes_eq w.0 name) as
    (λ t. (t || list_any (λ n. bytes_eq n name) (map (λ (v : List ℕ × ℕ). v.0) ws)) ≡ true → option_map
    (λ (v : List ℕ × ℕ). v.1) (cond t (Some w) (find (λ v. bytes_eq v.0 name) ws)) ≡ Some 1) [
      | true ↦ λ is. ap Some wide.0
      | false ↦ λ is. one_wide ws name wide.1 is
    ] among

there : (pins : List PinDecl) (name : List ℕ)
    → list_any (λ n. bytes_eq n name) (map (λ (p : PinDecl). p.name) pins) ≡ true → has_pin pins name ≡ true
there [] name among = absurd (cc)
there (p ∷ pins) name among =
    elim (bytes_eq p.name name) as
    (λ t. (t || list_any (λ n. bytes_eq n name) (map (λ (q : PinDecl). q.name) pins)) ≡ true → is_some
    (cond t (Some p) (find (λ (q : PinDecl). bytes_eq q.name name) pins)) ≡ true) [
      | true ↦ λ is. refl
      | false ↦ λ is. there pins name is
    ] among

any_late : (a b : Bool) → b ≡ true → (a || b) ≡ true
any_late true b h = refl
any_late false b h = h

-- each name of a list is among its names
all_among : {A : Type 0} (name : A → List ℕ) (xs : List A)
    → AllByRecursion (λ x. list_any (λ n. bytes_eq n (name x)) (map name xs) ≡ true) xs
all_among name [] = tt
all_among name (x ∷ xs) = (
  ap (λ t. t || list_any (λ n. bytes_eq n (name x)) (map name xs)) (same_bytes (name x)),
  all_step (λ y. list_any (λ n. bytes_eq n (name y)) (map name xs) ≡ true)
      (λ y. list_any (λ n. bytes_eq n (name y)) (map name (x ∷ xs)) ≡ true)
      (λ y is. any_late (bytes_eq (name x) (name y)) (list_any (λ n. bytes_eq n (name y)) (map name xs)) is) xs
      (all_among name xs),
)

module _ (ws : Widths) (pins : List PinDecl)
    (names : map (λ (p : PinDecl). p.name) pins ≡ map (λ (w : List ℕ × ℕ). w.0) ws)
    (wide : AllByRecursion (λ (w : List ℕ × ℕ). w.1 ≡ 1) ws) where
  pins_fit : (some : List PinDecl)
      → AllByRecursion (λ (p : PinDecl). list_any (λ n. bytes_eq n p.name)
      (map (λ (q : PinDecl). q.name) pins) ≡ true) some
      → AllByRecursion (λ (p : PinDecl). length p.bits ≡ 1) some → AllByRecursion
      (λ p. is_pin_of ws p ≡ true) some
  pins_fit [] among single = tt
  pins_fit (p ∷ some) among single = (
    ap (λ o. unwrap_or (option_map (λ width. length p.bits == width) o) false)
        (one_wide ws p.name wide (ap (list_any (λ n. bytes_eq n p.name)) (sym names) ∙ among.0))
        ∙ eq-eqb (length p.bits) 1 single.0,
    pins_fit some among.1 single.1,
  )

  pins_there : (some : Widths)
      → AllByRecursion (λ (w : List ℕ × ℕ). list_any (λ n. bytes_eq n w.0)
      (map (λ (v : List ℕ × ℕ). v.0) ws) ≡ true) some
      → AllByRecursion (λ w. has_pin pins w.0 ≡ true) some
  pins_there [] among = tt
  pins_there (w ∷ some) among =
      (there pins w.0 (ap (list_any (λ n. bytes_eq n w.0)) names ∙ among.0), pins_there some among.1)

  pub right_by_names : AllByRecursion (λ (p : PinDecl). length p.bits ≡ 1) pins → has_pins ws pins ≡ true
  right_by_names single =
      ap₂ (λ a b. a && b)
      (all_pass (is_pin_of ws) pins (pins_fit pins (all_among (λ (p : PinDecl). p.name) pins) single))
      (all_pass (λ w. has_pin pins w.0) ws (pins_there ws (all_among (λ (w : List ℕ × ℕ). w.0) ws)))
