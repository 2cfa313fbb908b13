-- Worked proofs behind the first state, proved by computation: what each sentence costs, what is told of it, and the goals behind it.
use Rattle.std.specs.Prelude.{◌≡◌, ℕ, ◌+◌, ◌-◌, List, [], ◌∷◌, map, drop, true, false, codes, Option, Some, None, Result, Ok, Err, refl}
use Rattle.base_core.specs.declared.refusals.Stop.{Stop}
use Rattle.prover_iface.specs.declared.goals.GoalsView.{GoalsView}
use Rattle.prover_iface.specs.declared.outline.ItemKind.TheVariants as item
use Rattle.coq_syntax.specs.declared.command.AssumptionWord.TheVariants.{Axiom}
use Rattle.coq_syntax.specs.declared.command.StatementWord.TheVariants.{Theorem}
use Rattle.coq_syntax.specs.declared.words.BoundName.TheVariants.{Named, Unnamed}
use Rattle.coq_syntax.specs.declared.words.TokenPlace.{TokenPlace}
use Rattle.coq_syntax.specs.declared.words.Word.{Word}
use Rattle.coq_syntax.specs.CommandTrees.{Command}
use Rattle.coq_syntax.specs.CommandTrees as command
use Rattle.coq_syntax.specs.MoveTrees as move
use Rattle.coq_syntax.specs.Trees.{Term, Name, And, Equal, Numeral, NoGroup, Group}
use Rattle.core_term.specs.Tree.{Constant}
use Rattle.cic_rules.specs.declared.entries.EntryKind.{EntryKind}
use Rattle.cic_rules.specs.declared.entries.EntryKind.TheVariants.{Defined}
use Rattle.cic_rules.specs.declared.env.Slot.{Slot}
use Rattle.cic_rules.specs.Convert.{conv_at, blocker_at}
use Rattle.cic_rules.specs.Declare.{declare_at}
use Rattle.cic_rules.specs.Infer.{infer_at}
use Rattle.cic_rules.specs.Inductive.{row_at}
use Rattle.cic_rules.specs.Reduce.{whnf_at}
use Rattle.cic_rules.specs.Runs.{Ran, repeat}
use Rattle.cic_rules.proofs.FirstState.{first_state}
use Rattle.elaborator.specs.Elab.{elab, open_groups}
use Rattle.matching.specs.Match.{match_at}
use Rattle.term_print.specs.Show.{show}
use Rattle.vernac_exec.specs.declared.deed.Deed.{Deed}
use Rattle.vernac_exec.specs.declared.reading.Reading.{Reading}
use Rattle.vernac_exec.specs.declared.reading.Reading.TheVariants as read
use Rattle.vernac_exec.specs.declared.state.OpenProof.{OpenProof}
use Rattle.vernac_exec.specs.declared.state.State.{State}
use Rattle.vernac_exec.specs.Calls.{run_read}
use Rattle.vernac_exec.specs.Commands.{obey}
use Rattle.vernac_exec.specs.Diagnostics.{told}
use Rattle.vernac_exec.specs.Proofs.{obey_inside}
use Rattle.vernac_exec.specs.States.{over, behind}
use Rattle.vernac_exec.specs.Views.{goals_of}

abbrev environment_of : Result (List Slot) Stop → List Slot
environment_of (Ok env) = env
environment_of (Err stop) = []

-- what is seen of a sentence: its cost, the numbers that are told, and behind it the goals in focus, those that wait and those given up
record Seen : Type 0 where
  cost : ℕ
  told : List ℕ
  goals : List ℕ
  waiting : List (List ℕ)
  given_up : List ℕ

abbrev seen : ℕ → List ℕ → List ℕ → List (List ℕ) → List ℕ → Seen
seen cost told goals waiting given_up = record { cost = cost; told = told; goals = goals; waiting = waiting; given_up = given_up }

abbrev seen_in : ℕ → List ℕ → Option OpenProof → Seen
seen_in cost told None = seen cost told [] [] []
seen_in cost told (Some o) = seen cost told o.focus.goals (map (λ level. level.waiting) o.focus.levels) o.proof.given_up

abbrev numbers : Result Deed Stop → List ℕ
numbers answer = map (λ diag. diag.code) (told (codes "x") answer)

abbrev run : State → Reading → Ran Deed
run m r = run_read m.env 2000 m.opened (Ok r) 1000000

abbrev next : State → Reading → State
next m r = behind m (Ok r) (run m r).answer

abbrev look : State → Reading → Seen
look m r = seen_in (1 + (1000000 - (run m r).left)) (numbers (run m r).answer) (next m r).opened

-- what is seen of sentences, one after another
abbrev play : State → List Reading → List Seen
play m [] = []
play m (r ∷ rs) = look m r ∷ play (next m r) rs

abbrev behind_all : State → List Reading → State
behind_all m [] = m
behind_all m (r ∷ rs) = behind_all (next m r) rs

abbrev HERE : TokenPlace
HERE = record { from = 0; to = 1 }

abbrev word : List ℕ → Word
word text = record { text = text; place = HERE }

abbrev TRUE : Term
TRUE = Name (word (codes "True"))

-- Theorem t : s
abbrev theorem : Term → Reading
theorem s = read.Command (command.State Theorem HERE (word (codes "t")) NoGroup HERE s)

abbrev BOTH : Reading
BOTH = theorem (And TRUE HERE TRUE)

abbrev exact : List ℕ → Reading
exact name = read.Move (move.Exact HERE (Name (word name)))

abbrev SPLIT : Reading
SPLIT = read.Move (move.Split HERE)

abbrev ADMIT : Reading
ADMIT = read.Move (move.Admit HERE)

abbrev bullet : ℕ → Reading
bullet mark = read.Bullet mark 1

abbrev QED : Reading
QED = read.Command (command.Qed HERE)

-- each bullet refused once: a wrong one, and one that has no goal left; the theorem enters as proved
abbrev BULLETS : List Reading
BULLETS = BOTH ∷ SPLIT ∷ bullet 45 ∷ exact (codes "I") ∷ bullet 43 ∷ exact (codes "I") ∷ bullet 45 ∷ exact (codes "I") ∷ bullet 45 ∷ QED ∷ []

-- goals that are given up at a bullet, and no goal left for it; then the theorem is admitted
abbrev GIVEN_UP : List Reading
GIVEN_UP =
    BOTH
    ∷ read.Command (command.Assume Axiom HERE (word (codes "A")) HERE TRUE)
    ∷ read.CloseBrace
    ∷ read.OpenBrace
    ∷ SPLIT
    ∷ bullet 45
    ∷ bullet 45
    ∷ bullet 45
    ∷ read.CloseBrace
    ∷ QED
    ∷ []

-- a move that is refused, a move that gives the goal up; a proof with goals left, one that is admitted, one that is dropped
abbrev RECOVERED : List Reading
RECOVERED =
    theorem TRUE
    ∷ exact (codes "O")
    ∷ ADMIT
    ∷ SPLIT
    ∷ QED
    ∷ exact (codes "I")
    ∷ []

-- Theorem t (n : nat) (_ : n = 0) : n = 0
abbrev GROUPED : Reading
GROUPED =
    read.Command (command.State Theorem HERE (word (codes "t"))
    (Group HERE (Named (word (codes "n")) ∷ []) HERE (Name (word (codes "nat"))) HERE
    (Group HERE (Unnamed HERE ∷ []) HERE (Equal (Name (word (codes "n"))) HERE (Numeral (record { text = codes "0"; place = HERE }))) HERE NoGroup))
    HERE (Equal (Name (word (codes "n"))) HERE (Numeral (record { text = codes "0"; place = HERE }))))

-- groups are hypotheses, and a `_` has a name; the proof is dropped, or the theorem is admitted, and there is nothing to end then
abbrev GROUPS : List Reading
GROUPS =
    GROUPED
    ∷ read.Command (command.Check HERE (Name (word (codes "H"))))
    ∷ read.Command (command.Proof HERE)
    ∷ read.Command (command.Aborted HERE)
    ∷ GROUPED
    ∷ exact (codes "H")
    ∷ read.Command (command.Admitted HERE)
    ∷ read.Command (command.Defined HERE)
    ∷ GROUPED
    ∷ []

abbrev FIRST : State
FIRST = over (environment_of first_state.answer)

bullets_seen : play FIRST BULLETS ≡
    seen 8 [] (0 ∷ []) [] []
    ∷ seen 14 [] (1 ∷ 2 ∷ []) [] []
    ∷ seen 1 [] (1 ∷ []) ((2 ∷ []) ∷ []) []
    ∷ seen 3 [] [] ((2 ∷ []) ∷ []) []
    ∷ seen 1 (50 ∷ []) [] ((2 ∷ []) ∷ []) []
    ∷ seen 1 (56 ∷ []) [] ((2 ∷ []) ∷ []) []
    ∷ seen 1 [] (2 ∷ []) ([] ∷ []) []
    ∷ seen 3 [] [] ([] ∷ []) []
    ∷ seen 1 (59 ∷ []) [] ([] ∷ []) []
    ∷ seen 26 [] [] [] []
    ∷ []
unfolding obey obey_inside elab open_groups infer_at declare_at whnf_at conv_at blocker_at row_at match_at repeat
bullets_seen = refl

given_up_seen : play FIRST GIVEN_UP ≡
    seen 8 [] (0 ∷ []) [] []
    ∷ seen 1 (55 ∷ []) (0 ∷ []) [] []
    ∷ seen 1 (52 ∷ []) (0 ∷ []) [] []
    ∷ seen 1 [] (0 ∷ []) ([] ∷ []) []
    ∷ seen 14 [] (1 ∷ 2 ∷ []) ([] ∷ []) []
    ∷ seen 1 [] (1 ∷ []) ((2 ∷ []) ∷ [] ∷ []) []
    ∷ seen 1 (51 ∷ []) (2 ∷ []) ([] ∷ [] ∷ []) (1 ∷ [])
    ∷ seen 1 (51 ∷ 59 ∷ []) [] ([] ∷ [] ∷ []) (1 ∷ 2 ∷ [])
    ∷ seen 1 [] [] [] (1 ∷ 2 ∷ [])
    ∷ seen 1 (53 ∷ []) [] [] []
    ∷ []
unfolding obey obey_inside elab open_groups infer_at declare_at whnf_at conv_at blocker_at row_at match_at repeat
given_up_seen = refl

recovered_seen : play FIRST RECOVERED ≡
    seen 2 [] (0 ∷ []) [] []
    ∷ seen 4 (22 ∷ []) (0 ∷ []) [] []
    ∷ seen 1 (90 ∷ []) [] [] (0 ∷ [])
    ∷ seen 1 (56 ∷ []) [] [] (0 ∷ [])
    ∷ seen 1 (53 ∷ []) [] [] []
    ∷ seen 1 (54 ∷ []) [] [] []
    ∷ []
unfolding obey obey_inside elab open_groups infer_at declare_at whnf_at conv_at blocker_at row_at match_at repeat
recovered_seen = refl

groups_seen : play FIRST GROUPS ≡
    seen 30 [] (0 ∷ []) [] []
    ∷ seen 2 (100 ∷ []) (0 ∷ []) [] []
    ∷ seen 1 [] (0 ∷ []) [] []
    ∷ seen 1 [] [] [] []
    ∷ seen 30 [] (0 ∷ []) [] []
    ∷ seen 9 [] [] [] []
    ∷ seen 1 (91 ∷ []) [] [] []
    ∷ seen 1 (54 ∷ []) [] [] []
    ∷ seen 1 (25 ∷ []) [] [] []
    ∷ []
unfolding obey obey_inside elab open_groups infer_at declare_at whnf_at conv_at blocker_at row_at match_at repeat
groups_seen = refl

-- the row of a theorem goes from the sentence that begins its proof to the one that enters it
proved_row : (behind_all FIRST BULLETS).outline ≡ record { kind = item.Theorem; place = 40; first = 0; last = 9 } ∷ []
unfolding obey obey_inside elab open_groups infer_at declare_at whnf_at conv_at blocker_at row_at match_at repeat
proved_row = refl

admitted_row : (behind_all FIRST GIVEN_UP).outline ≡ record { kind = item.Admitted; place = 40; first = 0; last = 9 } ∷ []
unfolding obey obey_inside elab open_groups infer_at declare_at whnf_at conv_at blocker_at row_at match_at repeat
admitted_row = refl

-- a proof that is ended with goals left: the theorem is admitted, and is there
abbrev LEFT : List Reading
LEFT = BOTH ∷ SPLIT ∷ exact (codes "I") ∷ QED ∷ read.Command (command.Check HERE (Name (word (codes "t")))) ∷ []

left_seen : play FIRST LEFT ≡
    seen 8 [] (0 ∷ []) [] []
    ∷ seen 14 [] (1 ∷ 2 ∷ []) [] []
    ∷ seen 3 [] (2 ∷ []) [] []
    ∷ seen 1 (57 ∷ []) [] [] []
    ∷ seen 2 (100 ∷ []) [] [] []
    ∷ []
unfolding obey obey_inside elab open_groups infer_at declare_at whnf_at conv_at blocker_at row_at match_at repeat
left_seen = refl

-- what a proof enters: `Qed` an opaque definition, `Defined` one that may be unfolded
abbrev entered_by : Reading → List EntryKind
entered_by r = map (λ slot. slot.entry.kind) (drop 40 (behind_all FIRST (theorem TRUE ∷ exact (codes "I") ∷ r ∷ [])).env)

qed_enters : entered_by QED ≡ Defined (Constant 5) true ∷ []
unfolding obey obey_inside elab open_groups infer_at declare_at whnf_at conv_at blocker_at row_at match_at repeat
qed_enters = refl

defined_enters : entered_by (read.Command (command.Defined HERE)) ≡ Defined (Constant 5) false ∷ []
unfolding obey obey_inside elab open_groups infer_at declare_at whnf_at conv_at blocker_at row_at match_at repeat
defined_enters = refl

-- the goals as they are shown
abbrev shown_behind : State → Option GoalsView
shown_behind m = goals_of m.env m.opened

groups_shown : shown_behind (next FIRST GROUPED) ≡ Some (record {
  goals = record {
    hyps = record { name = codes "n"; ty = codes "nat"; value = None } ∷ record { name = codes "H"; ty = codes "n = O"; value = None } ∷ [];
    ty = codes "n = O";
  } ∷ [];
  stack = [];
  given_up = [];
})
unfolding obey elab open_groups infer_at declare_at whnf_at conv_at blocker_at row_at match_at repeat show
groups_shown = refl
