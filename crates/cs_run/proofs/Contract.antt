-- The contract of a run, from the table of statuses.
use Rattle.std.proofs.Common.{◌≡◌, ◌==◌, ◌⊎◌, ◌∙◌, ℕ, suc, Bool, true, false, cond, eqb-true, List, [], ◌∷◌, Contains, arith, ap, inl, inr, refl, subst, sym}
use Rattle.std.specs.Prelude.{Ok}
use Rattle.cs_report.specs.OwnTexts.{help_text, version_text}
use Rattle.cs_words.specs.declared.command.Command.{Command}
use Rattle.cs_words.specs.declared.command.Command.TheVariants.{Help, Mix, Part, Sim, SimContext, Slow, Upgrade, Version}
use Rattle.cs_words.specs.Commands.{command_of}
use Rattle.cs_run.specs.declared.status.Status.{Status}
use Rattle.cs_run.specs.declared.status.Status.TheVariants.{Done, NoMemory, Usage, ReadFault, WriteFault}
use Rattle.cs_run.specs.Promises.{Promises}
use Rattle.cs_run.specs.Runs.{Run, RunEnds}
use Rattle.cs_run.specs.Statuses.{all_codes, code_of, status_of}
use Rattle.cs_run.proofs.Ends.{Finished, Unfinished}
use Rattle.cs_run.proofs.MixLemmas.{mix_done, mix_parts_back, mix_unwritten}
use Rattle.cs_run.proofs.OwnLemmas.{own_put, own_unput}
use Rattle.cs_run.proofs.PartLemmas.{part_done, part_unput}
use Rattle.cs_run.proofs.PromiseLemmas.{complete, done_row, no_memory, of_command, others, read_fault, refused, refused_only, same_status, unrefused, untouched, usage, usage_only, write_fault, write_row}
use Rattle.cs_run.proofs.SimContextLemmas.{context_responded, context_unput}
use Rattle.cs_run.proofs.SimLemmas.{sim_responded, sim_unput}
use Rattle.cs_run.proofs.SlowLemmas.{slow_done, slow_isolates, slow_output, slow_unwritten}
use Rattle.cs_run.proofs.UpgradeLemmas.{upgrade_done, upgrade_prints, upgrade_reads_back, upgrade_unwritten}

abbrev is_in : ℕ → List ℕ → Bool
is_in n [] = false
is_in n (x ∷ xs) = cond (x == n) true (is_in n xs)

step : (x : ℕ) (xs : List ℕ) (n : ℕ) (test more : Bool) → (x == n) ≡ test → cond test true more ≡ true → (more ≡ true → Contains xs n) → Contains (x ∷ xs) n
step x xs n true more is h later = (0, omega arith, eqb-true x n is)
step x xs n false more is h later = let c = later h in (suc c.0, omega (arith, c.1), c.2)

listed : (xs : List ℕ) (n : ℕ) → is_in n xs ≡ true → Contains xs n
listed [] n h = absurd (let both : false ≡ true = h in cc)
listed (x ∷ xs) n h = step x xs n (x == n) (is_in n xs) refl h (listed xs n)

is_listed : (s : Status) → Contains all_codes (code_of s)
is_listed Done = listed all_codes 0 refl
is_listed s = listed all_codes (code_of s) refl

either : (status first second : Status) (result : ℕ) → result ≡ code_of status → (status ≡ first) ⊎ (status ≡ second) →
    (result ≡ code_of first) ⊎ (result ≡ code_of second)
either status first second result is (inl same) = inl (is ∙ ap code_of same)
either status first second result is (inr same) = inr (is ∙ ap code_of same)

-- a command's run at status 0, and at 4
done : (run : Run) (status : Status) (command : Command) → RunEnds run status → command_of run.words ≡ Ok command → status ≡ Done →
    Finished command run.old run.new
done run status command ran says to = done_row command run.old run.new status (of_command run status command says ran) to

undone : (run : Run) (status : Status) (command : Command) → RunEnds run status → command_of run.words ≡ Ok command → status ≡ WriteFault →
    Unfinished command run.old run.new
undone run status command ran says to = write_row command run.old run.new status (of_command run status command says ran) to

pub promises : (run : Run) (status : Status) (result : ℕ) → result ≡ code_of status → RunEnds run status → Promises run result
promises run status result is ran =
    let at : (asked : Status) → result ≡ code_of asked → status ≡ asked = λ asked to. same_status status asked (sym is ∙ to) in
    record {
      statuses = subst (λ n. Contains all_codes n) (sym is) (is_listed status);
      no_memory = λ to. no_memory run status ran (at NoMemory to);
      usage_only = λ to. usage_only run status ran (at Usage to);
      read_fault = λ to. read_fault run status ran (at ReadFault to);
      write_fault = λ to. write_fault run status ran (at WriteFault to);
      refused_only = λ asked of to. refused_only run status asked ran of (at asked to);
      usage = λ error says. either status Usage NoMemory result is (usage run status error says ran);
      refused = λ command reason says told has read.
          either status (status_of reason.fault) NoMemory result is (refused run status command reason ran says told has read);
      unrefused = λ command says none no_fault. either status Done NoMemory result is (unrefused run status command ran says none no_fault);
      complete = λ command reply says told all no_fault.
          either status Done NoMemory result is (complete run status command reply ran says told all no_fault);
      others = others run status ran;
      slow_done = λ slow says to. slow_done slow run.old run.new (done run status (Slow slow) ran says (at Done to));
      slow_unwritten = λ slow says to. slow_unwritten slow run.old run.new (undone run status (Slow slow) ran says (at WriteFault to));
      slow_output = λ to slow bytes netlist images input built.
          slow_output run slow bytes netlist images input (slow_done slow run.old run.new (done run status (Slow slow) ran input.says (at Done to))) built;
      slow_isolates = λ to slow bytes netlist images input holds.
          slow_isolates run slow bytes netlist images input (slow_done slow run.old run.new (done run status (Slow slow) ran input.says (at Done to))) holds;
      sim_responded = λ sim says to. sim_responded sim run.old run.new (done run status (Sim sim) ran says (at Done to));
      sim_unput = λ sim says to. sim_unput sim run.old run.new (undone run status (Sim sim) ran says (at WriteFault to));
      context_responded = λ sim says to. context_responded sim run.old run.new (done run status (SimContext sim) ran says (at Done to));
      context_unput = λ sim says to. context_unput sim run.old run.new (undone run status (SimContext sim) ran says (at WriteFault to));
      mix_done = λ mix says to. mix_done mix run.old run.new (done run status (Mix mix) ran says (at Done to));
      mix_unwritten = λ mix says to. mix_unwritten mix run.old run.new (undone run status (Mix mix) ran says (at WriteFault to));
      mix_parts_back = λ to mix streams text has holds.
          mix_parts_back run mix streams text has (mix_done mix run.old run.new (done run status (Mix mix) ran has.says (at Done to))) holds;
      part_done = λ part says to. part_done part run.old run.new (done run status (Part part) ran says (at Done to));
      part_unput = λ part says to. part_unput part run.old run.new (undone run status (Part part) ran says (at WriteFault to));
      upgrade_done = λ upgrade says to. upgrade_done upgrade run.old run.new (done run status (Upgrade upgrade) ran says (at Done to));
      upgrade_unwritten = λ upgrade says to.
          upgrade_unwritten upgrade run.old run.new (undone run status (Upgrade upgrade) ran says (at WriteFault to));
      upgrade_prints = λ to upgrade bytes paper has says.
          upgrade_prints run upgrade bytes paper has (upgrade_done upgrade run.old run.new (done run status (Upgrade upgrade) ran has.says (at Done to))) says;
      upgrade_reads_back = λ to upgrade bytes text has holds.
          upgrade_reads_back run upgrade bytes text has (upgrade_done upgrade run.old run.new (done run status (Upgrade upgrade) ran has.says (at Done to))) holds;
      help_put = λ says to. own_put Help help_text run.old run.new (λ inputs reply makes. makes) (done run status Help ran says (at Done to));
      help_unput = λ says to.
          own_unput Help help_text run.old run.new (λ inputs reply makes. makes) (undone run status Help ran says (at WriteFault to));
      help_reads_nothing = λ says.
          untouched Help help_text run.old run.new status refl (λ inputs reply makes. makes) (of_command run status Help says ran);
      version_put = λ says to.
          own_put Version version_text run.old run.new (λ inputs reply makes. makes) (done run status Version ran says (at Done to));
      version_unput = λ says to.
          own_unput Version version_text run.old run.new (λ inputs reply makes. makes) (undone run status Version ran says (at WriteFault to));
      version_reads_nothing = λ says.
          untouched Version version_text run.old run.new status refl (λ inputs reply makes. makes) (of_command run status Version says ran);
    }
