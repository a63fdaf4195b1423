-- Counts above their limits.
use Rattle.std.proofs.Common.{◌≡◌, ◌∙◌, ◌<◌, ◌≤◌, ◌*◌, ◌^◌, ◌%◌, ◌-◌, List, Option, Some, None, ap, cond, find, map, min, nat_lt, option_map, sym, arith, ℕ, [], ◌∷◌, true, false, refl, subst}
use Rattle.std.specs.Prelude.{sum, unwrap_or}
use Rattle.std.proofs.Math.Nat.{mod-eq_of_lt}
use Rattle.std.proofs.Math.Pow.{pow_mono}
use Rattle.std.proofs.lemmas.Bool.{le-leb}
use Rattle.cs_base.specs.declared.limit.Counted.TheVariants.{AddressBits, Cells, MemoryBits, ReadBits}
use Rattle.cs_base.specs.declared.limit.LimitFault.{LimitFault}
use Rattle.cs_cells.specs.declared.memory.MemShape.{MemShape}
use Rattle.cs_modules.specs.Memories.{shapes_in}
use Rattle.cs_net.specs.Accept.{above_limit, limit_fault_of, memory_bits, memory_fault_of, read_bits}
use Rattle.cs_conditions.specs.Conditions.{or_else}

pub shifted_one : (k : ℕ) → k ≤ 20 → 1 * 2 ^ k % 18446744073709551616 ≡ 2 ^ k
shifted_one k few =
    let most : 2 ^ k ≤ 2 ^ 20 = pow_mono few in
    let one : 1 * 2 ^ k ≡ 2 ^ k = omega arith in
    ap (λ n. n % 18446744073709551616) one ∙ mod-eq_of_lt (omega (arith, most))

-- a memory with too many address bits is the first fault of memories
pub wide_fault : (shapes : List (Option MemShape)) (bits : ℕ) (found : Option LimitFault) →
    Some bits ≡ option_map (λ shape. shape.abits) (find (λ shape. nat_lt 20 shape.abits) (shapes_in shapes)) →
    20 < bits → found ≡ above_limit AddressBits bits 20 → found ≡ memory_fault_of shapes
wide_fault shapes bits found first wide is =
    let rest = or_else (above_limit MemoryBits (sum (map memory_bits (shapes_in shapes))) 4194304)
    (above_limit ReadBits (sum (map read_bits (shapes_in shapes))) 4194304) in
    let fault : LimitFault = record { what = AddressBits; found = min bits (2 ^ 64 - 1); most = 20 } in
    let some : above_limit AddressBits bits 20 ≡ Some fault = ap (λ t. cond t (Some fault) None) (le-leb 21 bits wide) in
    is ∙ some
    ∙ sym (ap (λ o. or_else (above_limit AddressBits (unwrap_or o 0) 20) rest) (sym first) ∙ ap (λ o. or_else o rest) some)

-- within the limits no memory has too many address bits
pub all_narrow : (cells : ℕ) (shapes : List (Option MemShape)) → limit_fault_of cells shapes ≡ None →
    find (λ shape. nat_lt 20 shape.abits) (shapes_in shapes) ≡ None
all_narrow cells shapes none =
    by (find (λ shape. nat_lt 20 shape.abits) (shapes_in shapes)) refl
  where
    second : {A : Type 0} (a b rest : Option A) → or_else a (or_else b rest) ≡ None → b ≡ None
    second (Some e) b rest h = absurd (cc)
    second None (Some e) rest h = absurd (cc)
    second None None rest h = refl

    passes : (s : MemShape) (rest : List MemShape) → find (λ shape. nat_lt 20 shape.abits) rest ≡ Some s → nat_lt 20 s.abits ≡ true
    passes s [] h = absurd (cc)
    passes s (x ∷ rest) h =
        elim (nat_lt 20 x.abits) as (λ t. nat_lt 20 x.abits ≡ t → cond t (Some x) (find (λ shape. nat_lt 20 shape.abits) rest) ≡ Some s → nat_lt 20 s.abits ≡ true) [
          | true ↦ λ wide is. let same : x ≡ s = cc in subst (λ z. nat_lt 20 z.abits ≡ true) same wide
          | false ↦ λ narrow is. passes s rest is
        ] refl h

    by : (found : Option MemShape) → find (λ shape. nat_lt 20 shape.abits) (shapes_in shapes) ≡ found → found ≡ None
    by None is = refl
    by (Some s) is =
        let fault : above_limit AddressBits (unwrap_or (option_map (λ shape. shape.abits) (find (λ shape. nat_lt 20 shape.abits) (shapes_in shapes))) 0) 20 ≡ None =
        second (above_limit Cells cells 65536) _ _ none in
        let here : above_limit AddressBits s.abits 20 ≡ None = sym (ap (λ o. above_limit AddressBits (unwrap_or (option_map (λ shape. shape.abits) o) 0) 20) is) ∙ fault in
        let wide : nat_lt 20 s.abits ≡ true = passes s (shapes_in shapes) is in
        let some = sym (ap (λ t. cond t (Some (record { what = AddressBits; found = min s.abits (2 ^ 64 - 1); most = 20 })) None) wide) ∙ here in
        absurd (cc)
