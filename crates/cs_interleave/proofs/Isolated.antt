-- The graph of a netlist for several contexts answers each of them as the netlist alone does.
use Rattle.std.proofs.Common.{ℕ, true, List, subst}
use Rattle.cs_base.specs.Parts.{part}
use Rattle.cs_bank.proofs.Answered.{FitsTogether, answers_alone}
use Rattle.cs_graph.specs.Run.{RunsWith}
use Rattle.cs_interleave.specs.Interleaved.{interleaved}
use Rattle.cs_interleave.specs.Isolation.{IsolatesContexts}
use Rattle.cs_interleave.proofs.Bankable.{can_bank}
use Rattle.cs_interleave.proofs.ContextStarts.{start_of_context}
use Rattle.cs_lower.specs.Lowered.{lowered}
use Rattle.cs_lower.proofs.KeepsAnswers.{run_answers}
use Rattle.cs_lower.proofs.DraftOutputs.{lowered_well_formed}
use Rattle.cs_lower.proofs.LoweredMachine.{lowered_memories, lowered_pins}
use Rattle.cs_net.specs.declared.images.Images.{Images}
use Rattle.cs_net.specs.declared.state.MemoryWords.{MemoryWords}
use Rattle.cs_net.specs.Contexts.{AreImagesFor, of_context, with_images}
use Rattle.cs_net.specs.Drivers.{driver_of, own_start}
use Rattle.cs_net.specs.Invariant.{IsWellFormed}
use Rattle.cs_net.specs.Netlist.{Net, NetState, state_of}
use Rattle.cs_net.specs.Trace.{Answers, IsTrace, Row, Valuation}
use Rattle.cs_net.proofs.MemoryWidths.{images_alike}
use Rattle.cs_net.proofs.OtherWords.{well_formed_with}

-- ---- a netlist with other words

-- what a netlist does from a state doesn't hang on the words that are its own
trace_with : (net : Net) (ms : List MemoryWords) (from : NetState) (rows : List Row) (bits : ℕ → Valuation)
    (state : ℕ → NetState) → IsTrace (record net { memories = ms }) from rows bits state → IsTrace net from rows bits state
unfolding driver_of
trace_with net ms from rows bits state t = record { begins = t.begins; settles = t.settles; goes_on = t.goes_on }

-- and so what it answers
answers_with : (net : Net) (ms : List MemoryWords) (from : NetState) (rows answer : List Row)
    → Answers (record net { memories = ms }) from rows answer → Answers net from rows answer
answers_with net ms from rows answer a = record {
  bits = a.bits;
  state = a.state;
  trace = trace_with net ms from rows a.bits a.state a.trace;
  shows = a.shows;
}

-- ---- contexts

-- the graph of a netlist is such as can be slowed and banked, whatever the limits
lowered_fits : (net : Net) → IsWellFormed net → FitsTogether (lowered net)
lowered_fits net w = record {
  well_formed = lowered_well_formed net w;
  pins = lowered_pins net w;
  memories = lowered_memories net w;
}

module _ (net : Net) (w : IsWellFormed net) (images : Images) (c : ℕ) (are : AreImagesFor net c images) where
  -- the graph of a netlist for several contexts isolates them
  pub isolates_contexts : IsolatesContexts net images c (interleaved net images c)
  isolates_contexts k rows outputs below r =
      let own : Net = of_context net images k in
      let bare = answers_alone (lowered net) (lowered_fits net w) c images.of
      (can_bank net w images c are) k rows outputs below r in
      let graph : RunsWith true (lowered own) (part k c rows) (part k c outputs) =
      subst (λ g. RunsWith true g (part k c rows) (part k c outputs))
      (start_of_context net images c k w are below) bare in
      let whole : IsWellFormed own =
      well_formed_with net (with_images k net.memories images.of) w (images_alike net images k c w are below) in
      record {
        netlist = answers_with net (with_images k net.memories images.of) (state_of (own_start own)) (part k c rows)
            (part k c outputs) (run_answers own whole (part k c rows) (part k c outputs) graph);
        graph = graph;
      }
