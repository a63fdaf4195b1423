-- Plans of the calls that are to fail.
use Rattle.std.proofs.Common.{◌≡◌, ℕ, true, false, ◌≤◌, None, arith}
use Rattle.std.proofs.lemmas.Bool.{ltb-false, OnFalse_from}
use Rattle.std.specs.Ordering.{nat_cmp}
use Rattle.std.specs.Bool.{OnFalse}
use Rattle.std.specs.FinMap.{empty_of_len, get, get-empty, len}
use Rattle.cs_io.specs.Memory.{Plan, is_planned}

-- where no call is to fail, the next one isn't
nothing_planned : (plan : Plan) (call : ℕ) → is_planned plan ≡ false → get plan call ≡ None
nothing_planned plan call none =
    let few : len plan ≤ 0 = ltb-false 0 (len plan) none in
    let no_entry : len plan ≡ 0 = omega arith in
    rw (empty_of_len plan no_entry) (get-empty nat_cmp call)

pub unplanned : (plan : Plan) (call : ℕ) → OnFalse (is_planned plan) (get plan call ≡ None)
unplanned plan call = OnFalse_from (is_planned plan) (get plan call ≡ None) (nothing_planned plan call)
