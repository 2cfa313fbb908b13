-- Two sides of conversion: what kind of term each is, and which rule is for both.
use Rattle.std.specs.Prelude.{ℕ, suc, ◌==◌, List, length, Bool, false, if◌then◌else◌}
use Rattle.core_term.specs.Tree.{Tree, Var, Sorted, Constant, Prod, Lam}
use Rattle.term_spine.specs.Spine.{head_of, eta_body}
use Rattle.term_spine.specs.declared.spines.Spine.{Spine}
use Rattle.term_spine.specs.Spines.{tree_of_spine}
use Rattle.cic_rules.specs.declared.context.Hyp.{Hyp}
use Rattle.cic_rules.specs.declared.env.Slot.{Slot}
use Rattle.cic_rules.specs.declared.judge.Mode.{Mode}
use Rattle.cic_rules.specs.declared.judge.Mode.TheVariants.{Same}
use Rattle.cic_rules.specs.Convert as rules
use Rattle.cic_rules.specs.Convert.{sorts_fit, conv_binders, conv_eta, conv_heads}
use Rattle.cic_rules.specs.Runs.{Run, pure, Turn, Final}
use Rattle.cic_rules.specs.Scopes.{IsScoped}
use Rattle.conversion.specs.declared.sides.Binder.{Binder}
use Rattle.conversion.specs.declared.sides.Form.{Form}
use Rattle.conversion.specs.declared.sides.Form.TheVariants.{OfSort, Product, Function, Neutral}
use Rattle.conversion.specs.declared.sides.Rule.{Rule}
use Rattle.conversion.specs.declared.sides.Rule.TheVariants.{Decided, Binders, EtaLeft, EtaRight, Heads}
use Rattle.conversion.specs.declared.sides.Sides.{Sides}

-- what kind of term a tree is
abbrev pub form_in : Tree → Form
form_in (Sorted s) = OfSort s
form_in (Prod n a b) = Product (record { name = n; domain = a; body = b })
form_in (Lam n a b) = Function (record { name = n; domain = a; body = b })
form_in _ = Neutral

-- which rule is for two kinds of terms
abbrev pub rule_for : Mode → Form → Form → Rule
rule_for mode (OfSort s) (OfSort r) = Decided (sorts_fit mode s r)
rule_for mode (Product b) (Product c) = Binders mode b c
rule_for mode (Function b) (Function c) = Binders Same b c
rule_for mode (Function b) Neutral = EtaLeft b
rule_for mode Neutral (Function c) = EtaRight c
rule_for mode _ _ = Heads

abbrev pub rule_in : Mode → Tree → Tree → Rule
rule_in mode t u = rule_for mode (form_in t) (form_in u)

-- a rule's turn, over the judgements that it calls
module _ (env : List Slot) (calls : ℕ) (head : List Hyp → Tree → Run Tree) (conv : List Hyp → Mode → Tree → Tree → Run Bool) (ctx : List Hyp) where
  abbrev pub binders_step : Mode → Binder → Binder → Run (Turn rules.Sides Bool)
  binders_step mode b c = conv_binders env calls head conv ctx mode b.name b.domain b.body c.domain c.body

  abbrev pub eta_left_step : Binder → Tree → Run (Turn rules.Sides Bool)
  eta_left_step b u = conv_eta env calls head conv ctx b.name b.domain (eta_body u) b.body (eta_body u)

  abbrev pub eta_right_step : Tree → Binder → Run (Turn rules.Sides Bool)
  eta_right_step t b = conv_eta env calls head conv ctx b.name b.domain (eta_body t) (eta_body t) b.body

  abbrev pub heads_step : Tree → Tree → Run (Turn rules.Sides Bool)
  heads_step t u = conv_heads env calls head conv ctx t u (head_of t) (head_of u)

  abbrev pub rule_step : Rule → Tree → Tree → Run (Turn rules.Sides Bool)
  rule_step (Decided answer) t u = pure (Final answer)
  rule_step (Binders mode b c) t u = binders_step mode b c
  rule_step (EtaLeft b) t u = eta_left_step b u
  rule_step (EtaRight b) t u = eta_right_step t b
  rule_step Heads t u = heads_step t u

-- a binder among so many variables and globals
abbrev pub IsScopedBinder : ℕ → ℕ → Binder → Type 0
IsScopedBinder vars globals b = IsScoped vars globals b.domain × IsScoped (suc vars) globals b.body

abbrev pub IsScopedRule : ℕ → ℕ → Rule → Type 0
IsScopedRule vars globals (Binders mode b c) = IsScopedBinder vars globals b × IsScopedBinder vars globals c
IsScopedRule vars globals (EtaLeft b) = IsScopedBinder vars globals b
IsScopedRule vars globals (EtaRight b) = IsScopedBinder vars globals b
IsScopedRule vars globals _ = Unit {0}

-- both heads are one variable or one global
abbrev pub one_head : Tree → Tree → Bool
one_head (Var i) (Var j) = i == j
one_head (Constant c) (Constant d) = c == d
one_head _ _ = false

-- and there are equally many arguments
abbrev pub heads_agree : Spine → Spine → Bool
heads_agree s r = if one_head s.head r.head then length s.args == length r.args else false

-- the terms of both sides
abbrev pub trees_of : Sides → rules.Sides
trees_of s = (tree_of_spine s.left, tree_of_spine s.right)
