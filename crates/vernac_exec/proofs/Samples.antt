-- Worked commands and sentences, proved by computation.
use Rattle.std.specs.Prelude.{◌≡◌, ℕ, List, [], ◌∷◌, length, codes, false, None, refl}
use Rattle.base_core.specs.declared.kind.Kind.TheVariants.{Bullet, Unfinished}
use Rattle.prover_iface.specs.declared.outline.ItemKind.TheVariants as item
use Rattle.prover_iface.specs.Sentences.{sentence}
use Rattle.coq_syntax.specs.declared.words.TokenPlace.{TokenPlace}
use Rattle.coq_syntax.specs.declared.words.Word.{Word}
use Rattle.coq_syntax.specs.declared.words.BoundName.TheVariants.{Named}
use Rattle.coq_syntax.specs.declared.command.AssumptionWord.TheVariants.{Axiom}
use Rattle.coq_syntax.specs.Trees.{Name, PropSort, NoGroup, Group, Untyped}
use Rattle.coq_syntax.specs.CommandTrees.{Command}
use Rattle.coq_syntax.specs.CommandTrees as command
use Rattle.core_term.specs.declared.sorts.Sort.TheVariants as sort
use Rattle.core_term.specs.Tree.{Var, Sorted, Prod, Lam}
use Rattle.cic_rules.specs.declared.entries.EntryKind.TheVariants.{Assumed, Defined}
use Rattle.cic_rules.specs.declared.env.Slot.{Slot}
use Rattle.cic_rules.specs.Environments.{own_slot}
use Rattle.cic_rules.specs.Infer.{infer_at}
use Rattle.cic_rules.specs.Declare.{declare_at}
use Rattle.cic_rules.specs.Runs.{pure, refuse}
use Rattle.elaborator.specs.Elab.{elab, open_groups}
use Rattle.term_print.specs.Show.{show}
use Rattle.vernac_exec.specs.declared.deed.Deed.TheVariants.{Declares, Answers}
use Rattle.vernac_exec.specs.declared.state.State.{State}
use Rattle.vernac_exec.specs.Readings.{reading}
use Rattle.vernac_exec.specs.Commands.{obey}
use Rattle.vernac_exec.specs.Sentences.{sentence_run}
use Rattle.vernac_exec.specs.States.{over, passed}
use Rattle.vernac_exec.specs.Exec.{cost, after, diagnosed}

abbrev HERE : TokenPlace
HERE = record { from = 0; to = 1 }

abbrev word : List ℕ → Word
word text = record { text = text; place = HERE }

-- the environment of the assumption A : Prop
abbrev ASSUMED : List Slot
ASSUMED = own_slot (record { name = codes "A"; ty = Sorted sort.PropSort; kind = Assumed; used = [] }) ∷ []

-- Axiom A : Prop
abbrev AXIOM : Command
AXIOM = command.Assume Axiom HERE (word (codes "A")) HERE (PropSort HERE)

-- one unit, for the sort of the type
axiom_enters : obey [] 2000 AXIOM 1000000 ≡ pure (Declares item.Axiom ASSUMED) 999999
unfolding obey elab infer_at declare_at
axiom_enters = refl

-- its name is taken then: nothing is elaborated
axiom_again : obey ASSUMED 2000 AXIOM 1000000 ≡ refuse 25 1000000
unfolding obey
axiom_again = refl

-- Definition i (x : Prop) := x
definition_enters : obey [] 2000 (command.Define HERE (word (codes "i")) (Group HERE (Named (word (codes "x")) ∷ []) HERE (PropSort HERE) HERE NoGroup) Untyped HERE (Name (word (codes "x")))) 1000000
    ≡ pure (Declares item.Definition (own_slot (record {
      name = codes "i";
      ty = Prod (codes "x") (Sorted sort.PropSort) (Sorted sort.PropSort);
      kind = Defined (Lam (codes "x") (Sorted sort.PropSort) (Var 0)) false;
      used = [];
    }) ∷ [])) 999993
unfolding obey elab open_groups infer_at declare_at
definition_enters = refl

-- Inductive I : Prop := I
name_twice : obey [] 2000 (command.Inductive HERE (word (codes "I")) NoGroup HERE (PropSort HERE) HERE (record { bar = None; name = word (codes "I"); groups = NoGroup; annotation = Untyped } ∷ [])) 1000000
    ≡ refuse 34 1000000
unfolding obey
name_twice = refl

-- Check Prop
check_answers : obey [] 2000 (command.Check HERE (PropSort HERE)) 1000000 ≡ pure (Answers (codes "Prop : Type")) 999999
unfolding obey elab infer_at show
check_answers = refl

-- a sentence that has no end costs its own unit alone, and leaves all but the count
unfinished_costs : (m : State) (text : List ℕ) → cost m (sentence Unfinished text) ≡ 1
unfolding sentence_run reading
unfinished_costs m text = refl

unfinished_leaves : (m : State) (text : List ℕ) → after m (sentence Unfinished text) ≡ passed m
unfolding sentence_run reading
unfinished_leaves m text = refl

-- a bullet where no proof is open
bullet_told : (env : List Slot) (text : List ℕ) →
    diagnosed (over env) (sentence Bullet text) ≡ record { severity = 1; code = 54; from = 0; to = length text; text = codes "no proof is open" } ∷ []
unfolding sentence_run reading
bullet_told env text = refl
