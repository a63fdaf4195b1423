-- `sim-context`: one answer, and what stands afterwards.
use Rattle.std.proofs.Common.{◌≡◌, ◌∙◌, ℕ, List, [], None, Some, ap, inl, inr, refl, subst, sym}
use Rattle.cs_images.specs.Said.{Says}
use Rattle.cs_net.specs.Contexts.{of_context}
use Rattle.cs_net.specs.Netlist.{Net}
use Rattle.cs_report.specs.declared.fault.Fault.{Fault}
use Rattle.cs_words.specs.declared.command.Command.TheVariants.{SimContext}
use Rattle.cs_words.specs.declared.command.SimContextWords.{SimContextWords}
use Rattle.cs_run.specs.declared.inputs.Role.TheVariants.{Images as ImagesRole, Net as NetRole, Stim}
use Rattle.cs_run.specs.declared.reply.Reply.{Reply}
use Rattle.cs_run.specs.Inputs.{bytes_of}
use Rattle.cs_run.specs.Reasons.{Reason}
use Rattle.cs_run.specs.Runs.{HasAnswer}
use Rattle.cs_run.specs.Sim.{HasNoStimulus}
use Rattle.cs_run.specs.SimContext.{CouldNotRespondContext, HasRespondedContext, IsOfContext, MakesSimContext, PutsContext, RefusesContext, RefusesSimContext, RespondsContext, sim_context_reads}
use Rattle.cs_run.specs.Starts.{SaysNoImages, images_refusal}
use Rattle.cs_run.specs.Statuses.{status_of}
use Rattle.cs_run.specs.Worlds.{World}
use Rattle.cs_run.proofs.Ends.{Finished, Unfinished}
use Rattle.cs_run.proofs.InputLemmas.{at_role}
use Rattle.cs_run.proofs.ReasonLemmas.{netlist_status, one_net, rows_status, sound}
use Rattle.cs_run.proofs.SimLemmas.{answer_apart}
use Rattle.cs_run.proofs.WorldLemmas.{AreNamed, put_only, unput_only}

-- ---- one answer

-- the netlist of a context is one
one_context : (words : SimContextWords) (net : Net) (images : List ℕ) (a b : Net) → IsOfContext words net images a → IsOfContext words net images b → a ≡ b
one_context words net images a b h k =
    let both : Says h.starts ≡ Says k.starts = sym h.says ∙ k.says in
    let same : h.starts ≡ k.starts = cc in
    h.is ∙ ap (λ starts. of_context net starts words.k) same ∙ sym k.is

-- bytes that say images don't say none
says_images : (words : SimContextWords) (net : Net) (images : List ℕ) (made : Net) (fault : Fault) → IsOfContext words net images made →
    SaysNoImages words.contexts net images fault → ⊥
says_images words net images made fault h none =
    let both : None ≡ Some fault = sym (ap images_refusal h.says) ∙ none in absurd (cc)

net_apart : (words : SimContextWords) (net : Net) (stim images : List ℕ) (reply : Reply) (fault : Fault) →
    PutsContext words net stim images reply → RefusesContext words net stim images fault → ⊥
net_apart words net stim images reply fault puts (inl none) = says_images words net images puts.own fault puts.of_context none
net_apart words net stim images reply fault puts (inr other) =
    answer_apart puts.own stim reply fault puts.puts
    (subst (λ n. HasNoStimulus n stim fault) (one_context words net images other.own puts.own other.of_context puts.of_context) other.no_rows)

pub sim_context_apart : (words : SimContextWords) (bytes stim images : List ℕ) (reply : Reply) (fault : Fault) →
    MakesSimContext words bytes stim images reply → RefusesSimContext words bytes stim images fault → ⊥
sim_context_apart words bytes stim images reply fault makes (inl says) = sound bytes makes.net fault makes.of_net says
sim_context_apart words bytes stim images reply fault makes (inr other) =
    net_apart words makes.net stim images reply fault makes.puts
    (subst (λ n. RefusesContext words n stim images fault) (one_net bytes other.net makes.net other.of_net makes.of_net) other.refuses)

net_status : (words : SimContextWords) (net : Net) (stim images : List ℕ) (a b : Reason) → RefusesContext words net stim images a.fault →
    RefusesContext words net stim images b.fault → status_of a.fault ≡ status_of b.fault
net_status words net stim images a b (inl h) (inl k) =
    let both : Some a.fault ≡ Some b.fault = sym h ∙ k in let same : a.fault ≡ b.fault = cc in ap status_of same
net_status words net stim images a b (inl h) (inr k) = absurd (says_images words net images k.own a.fault k.of_context h)
net_status words net stim images a b (inr h) (inl k) = absurd (says_images words net images h.own b.fault h.of_context k)
net_status words net stim images a b (inr h) (inr k) = rows_status _ a h.no_rows ∙ sym (rows_status _ b k.no_rows)

pub sim_context_status : (words : SimContextWords) (bytes stim images : List ℕ) (a b : Reason) → RefusesSimContext words bytes stim images a.fault →
    RefusesSimContext words bytes stim images b.fault → status_of a.fault ≡ status_of b.fault
sim_context_status words bytes stim images a b (inl h) (inl k) = netlist_status bytes a b h k
sim_context_status words bytes stim images a b (inl h) (inr k) = absurd (sound bytes k.net a.fault k.of_net h)
sim_context_status words bytes stim images a b (inr h) (inl k) = absurd (sound bytes h.net b.fault h.of_net k)
sim_context_status words bytes stim images a b (inr h) (inr k) =
    net_status words h.net stim images a b h.refuses
    (subst (λ n. RefusesContext words n stim images b.fault) (one_net bytes k.net h.net k.of_net h.of_net) k.refuses)

pub sim_context_names : (words : SimContextWords) (bytes stim images : List ℕ) (reply : Reply) → MakesSimContext words bytes stim images reply →
    AreNamed [] reply.writes
sim_context_names words bytes stim images reply makes = subst (λ (r : Reply). AreNamed [] r.writes) (sym makes.puts.puts.is) tt

-- ---- what stands afterwards

responds : (sim : SimContextWords) (old : World) (reply : Reply) (answer : HasAnswer (SimContext sim) old.store reply) →
    RespondsContext old.store.files sim answer.holds.0.puts.puts.text
responds sim old reply answer = record {
  bytes = bytes_of NetRole answer.inputs;
  stim = bytes_of Stim answer.inputs;
  images = bytes_of ImagesRole answer.inputs;
  net_file = at_role old.store.files (sim_context_reads sim) answer.inputs NetRole sim.net answer.have refl;
  stim_file = at_role old.store.files (sim_context_reads sim) answer.inputs Stim sim.stim answer.have refl;
  images_file = at_role old.store.files (sim_context_reads sim) answer.inputs ImagesRole sim.images answer.have refl;
  is = record {
    net = answer.holds.0.net;
    of_net = answer.holds.0.of_net;
    own = answer.holds.0.puts.own;
    of_context = answer.holds.0.puts.of_context;
    answered = answer.holds.0.puts.puts.answered;
  };
}

pub context_responded : (sim : SimContextWords) (old new : World) → Finished (SimContext sim) old new → HasRespondedContext sim old new
context_responded sim old new f =
    let makes = f.answer.holds.0.puts.puts in
    let left = put_only old new f.reply makes.text makes.is f.store f.sink in
    record { text = makes.text; responds = responds sim old f.reply f.answer; puts = record { store = left.0; sink = left.1 } }

pub context_unput : (sim : SimContextWords) (old new : World) → Unfinished (SimContext sim) old new → CouldNotRespondContext sim old new
context_unput sim old new f =
    let makes = f.answer.holds.0.puts.puts in
    let left = unput_only old new f.reply makes.text makes.is f.stops in
    record { text = makes.text; responds = responds sim old f.reply f.answer; fails = record { store = left.0; sink = left.1 } }
