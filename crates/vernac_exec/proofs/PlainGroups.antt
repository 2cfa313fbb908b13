-- Groups make hypotheses without definitions.
use Rattle.std.proofs.Common.{◌≡◌, ℕ, suc, List, [], ◌∷◌, Bool, true, false, None, Result, Ok, Err, refl, subst}
use Rattle.std.specs.Prelude.{if◌then◌else◌}
use Rattle.base_core.specs.declared.refusals.Stop.{Stop}
use Rattle.base_core.specs.declared.refusals.Stop.TheVariants.{Out}
use Rattle.base_core.specs.declared.refusals.Limit.TheVariants.{SizeLimit}
use Rattle.coq_syntax.specs.declared.words.BoundName.{BoundName}
use Rattle.coq_syntax.specs.Trees.{GroupList, NoGroup, Group as OneGroup}
use Rattle.core_term.specs.Tree.{Tree}
use Rattle.core_term.specs.Places.{lift_of}
use Rattle.cic_rules.specs.declared.context.Hyp.{Hyp}
use Rattle.cic_rules.specs.declared.env.Slot.{Slot}
use Rattle.cic_rules.specs.Contexts.{extended, plain_hyp, AreParams}
use Rattle.cic_rules.specs.Laws.{Tells}
use Rattle.cic_rules.specs.Runs.{Run}
use Rattle.cic_rules.proofs.TellsLaws.{tells_give, tells_pure, tells_bind}
use Rattle.elaborator.specs.Elab.{elab, open_groups}
use Rattle.elaborator.specs.Names.{bound_name}
use Rattle.elaborator.specs.Parts.{then_open, opened}
use Rattle.elaborator.specs.Rows.{bound}

opened_by : (answer : Result (List Hyp) Stop) (rest : List Hyp → Result (List Hyp) Stop) (all : List Hyp) →
    ((inner : List Hyp) → answer ≡ Ok inner → rest inner ≡ Ok all → AreParams all) → then_open answer rest ≡ Ok all → AreParams all
opened_by (Ok inner) rest all holds e = holds inner refl e
opened_by (Err stop) rest all holds e = absurd (cc)

extended_plain : (b : Bool) (hs inner : List Hyp) (h : Hyp) → h.value ≡ None → AreParams hs → (if b then Ok (h ∷ hs) else Err (Out SizeLimit)) ≡ Ok inner →
    AreParams inner
extended_plain true hs inner h none plain e =
    let same : h ∷ hs ≡ inner = cc in
    subst AreParams same (none, plain)
extended_plain false hs inner h none plain e = absurd (cc)

opened_plain : (hs all : List Hyp) (ty : Tree) (k : ℕ) (ns : List BoundName) → AreParams hs → opened hs ty k ns ≡ Ok all → AreParams all
opened_plain hs all ty k [] plain e =
    let same : hs ≡ all = cc in
    subst AreParams same plain
opened_plain hs all ty k (n ∷ ns) plain e =
    opened_by (extended hs (plain_hyp (bound_name n) (lift_of ty k 0))) (λ inner. opened inner ty (suc k) ns) all
    (λ inner first rest. opened_plain inner all ty (suc k) ns (extended_plain _ hs inner (plain_hyp (bound_name n) (lift_of ty k 0)) refl plain first) rest) e

any : {A : Type 0} (f : Run A) → Tells f (λ _. Unit {0})
any f = record { tells = λ l x e. tt }

bound_plain : (hs : List Hyp) (ns : List BoundName) (type : Run Tree) → AreParams hs → Tells (bound hs ns type) AreParams
bound_plain hs ns type plain = tells_bind (any type) (λ ty _. tells_give (opened hs ty 0 ns) (λ inner e. opened_plain hs inner ty 0 ns plain e))

pub groups_plain : (env : List Slot) (calls : ℕ) (hs : List Hyp) (gs : GroupList) → AreParams hs → Tells (open_groups env calls hs gs) AreParams
unfolding open_groups
groups_plain env calls hs NoGroup plain = tells_pure hs plain
groups_plain env calls hs (OneGroup p ns q t r after) plain =
    tells_bind (bound_plain hs ns (elab env calls hs t) plain) (λ inner more. groups_plain env calls inner after more)
