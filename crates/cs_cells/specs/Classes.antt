-- The class of a cell's type name: the first that fits.
use Rattle.std.specs.Prelude.{ℕ, Bool, not, ◌&&◌, ◌||◌, if◌then◌else◌, bytes_eq, nat_eq, List, [], ◌∷◌, Option, Some, None, find, codes}
use Rattle.std.specs.List.{starts_with, list_any}
use Rattle.cs_cells.specs.declared.gate.Kind.{Kind}
use Rattle.cs_cells.specs.declared.register.FfKind.{FfKind}
use Rattle.cs_cells.specs.declared.class.Class.{Class}
use Rattle.cs_cells.specs.declared.class.Class.TheVariants.{Gate, Register, Memory, Scope, Asynchronous, NotFine, Unknown}
use Rattle.cs_cells.specs.Gates.{row_of, gates}
use Rattle.cs_cells.specs.Registers.{register_name, registers}

-- the gate of a type name
abbrev pub gate_of : List ℕ → Option Kind
gate_of name = find (λ kind. bytes_eq (row_of kind).name name) gates

-- the register of a type name
abbrev pub register_of : List ℕ → Option FfKind
register_of name = find (λ kind. bytes_eq (register_name kind) name) registers

-- whether a name begins with this text
abbrev pub begins_with : List ℕ → List ℕ → Bool
begins_with name front = starts_with nat_eq name front

-- how the names of cells begin that have an asynchronous pin or no clock
abbrev pub asynchronous_fronts : List (List ℕ)
asynchronous_fronts =
    codes "$_DFF" ∷ codes "$_ALDFF" ∷ codes "$_DLATCH" ∷ codes "$_SR_" ∷ codes "$_FF_" ∷ []

-- a name of these beginnings, or the tristate buffer
abbrev pub is_asynchronous : List ℕ → Bool
is_asynchronous name =
    bytes_eq name (codes "$_TBUF_") || list_any (begins_with name) asynchronous_fronts

-- a coarse cell: its name begins with `$`, and not with `$_` or `$paramod`
abbrev pub is_not_fine : List ℕ → Bool
is_not_fine name =
    begins_with name (codes "$")
    && not (begins_with name (codes "$_"))
    && not (begins_with name (codes "$paramod"))

-- the class of a name that is no gate and no register
abbrev pub other_class : List ℕ → Class
other_class name =
    if bytes_eq name (codes "$mem_v2") then Memory
    else (if bytes_eq name (codes "$scopeinfo") then Scope
    else (if is_asynchronous name then Asynchronous
    else (if is_not_fine name then NotFine else Unknown)))

-- a gate or a register of the tables, else the other class
abbrev pub table_class : Option Kind → Option FfKind → Class → Class
table_class (Some kind) register other = Gate kind
table_class None (Some kind) other = Register kind
table_class None None other = other

-- the class of a type name
unfoldable pub class_of : List ℕ → Class
class_of name = table_class (gate_of name) (register_of name) (other_class name)
