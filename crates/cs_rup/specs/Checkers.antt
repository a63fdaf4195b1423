-- What a checker keeps.
use Rattle.std.specs.Prelude.{◌≡◌, ℕ, ◌≤◌, Bool, true, false, [], length, Result, Ok, Err, IfOk}
use Rattle.std.specs.declared.alloc.AllocError.{AllocError}
use Rattle.cs_base.specs.Derivations.{MeetsConflict}
use Rattle.cs_rup.specs.declared.error.Stop.{Stop}
use Rattle.cs_rup.specs.declared.error.Stop.TheVariants.{Conflict, NoMemory}
use Rattle.cs_rup.specs.declared.store.Store.{Store}
use Rattle.cs_rup.specs.declared.trail.Trail.{Trail}
use Rattle.cs_rup.specs.Settings.{Setting}
use Rattle.cs_rup.specs.Stores.{AreListed, WatchedBelow}
use Rattle.cs_rup.specs.Trails.{set_by, IsSound}

-- where nothing is given, what is set follows from the clauses, and so many clauses are watched
pub record IsSettled (store : Store) (s : Setting) (seen : ℕ) : Type 0 where
  pub sound : IsSound store.clauses [] s
  pub watched : WatchedBelow s store seen

-- what is kept of propagation where nothing is given: that it meets a conflict, or what it sets
abbrev pub Settles : Store → Bool → Setting → ℕ → Type 0
Settles store true s seen = MeetsConflict store.clauses []
Settles store false s seen = IsSettled store s seen

-- a checker's clauses, and what is kept of propagation; the trail is empty between lines
pub record IsKept (store : Store) (refuted : Bool) (trail : Trail) (seen : ℕ) : Type 0 where
  pub listed : AreListed store
  pub settles : Settles store refuted (set_by trail) seen
  pub within : seen ≤ length store.clauses
  pub empty : trail.lits.items ≡ []

-- whether propagation stopped at a conflict
abbrev pub Answers : Result (Unit {0}) Stop → Result Bool AllocError → Type 0
Answers (Ok _) answer = answer ≡ Ok false
Answers (Err Conflict) answer = answer ≡ Ok true
Answers (Err NoMemory) answer = IfOk answer (λ _. ⊥)
