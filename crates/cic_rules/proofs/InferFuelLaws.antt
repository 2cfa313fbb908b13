-- The law of fuel for inference, the tests of an inductive type, and declarations.
use Rattle.std.proofs.Common.{ℕ, zero, suc, List, [], ◌∷◌, Bool, true, Option, Some, None}
use Rattle.core_term.specs.declared.sorts.Sort.{Sort}
use Rattle.core_term.specs.Tree.{Tree, Var, Sorted, Constant, Prod, Lam, LetIn, App}
use Rattle.cic_rules.specs.declared.context.Hyp.{Hyp}
use Rattle.cic_rules.specs.declared.decls.Ctor.{Ctor}
use Rattle.cic_rules.specs.declared.decls.Decl.TheVariants.{Assume, Define, Admit, Induct}
use Rattle.cic_rules.specs.declared.decls.InductiveDecl.{InductiveDecl}
use Rattle.cic_rules.specs.declared.entries.EntryKind.{EntryKind}
use Rattle.cic_rules.specs.declared.env.Slot.{Slot}
use Rattle.cic_rules.specs.declared.families.CheckedInductive.{CheckedInductive}
use Rattle.cic_rules.specs.declared.judge.Inferred.{Inferred}
use Rattle.cic_rules.specs.declared.judge.Mode.{Mode}
use Rattle.cic_rules.specs.Runs.{Run, give}
use Rattle.cic_rules.specs.Reduce.{whnf_at}
use Rattle.cic_rules.specs.Convert.{conv_at}
use Rattle.cic_rules.specs.Infer.{must_be_sort, as_sort, sort_of, must_be_arrow, as_arrow, check, infer_by, infer_at}
use Rattle.cic_rules.specs.Eliminators.{family_entries}
use Rattle.cic_rules.specs.Inductive.{row_at, open_params, rows_of, check_family, check_inductive_at}
use Rattle.cic_rules.specs.Declare.{are_small, types_of, eliminators, assume, define, declare_at}
use Rattle.cic_rules.specs.Laws.{KeepsLawOfFuel, FuelOfInference, FuelOfSorts, FuelOfChecks, FuelOfDeclarations}
use Rattle.cic_rules.proofs.FuelLaws.{law_give, law_bind, law_step, law_require, law_pure, law_spend, if_room_is, fuel_laws}
use Rattle.cic_rules.proofs.JudgeFuelLaws.{fuel_of_reduction, fuel_of_conversion}

law_must_be_sort : (used : List ℕ) (t : Tree) → KeepsLawOfFuel (must_be_sort used t)
law_must_be_sort used (Sorted s) = search (fuel_laws)
law_must_be_sort used _ = search (fuel_laws)

module _ (whnf : List Hyp → Tree → Run Tree) (conv : List Hyp → Mode → Tree → Tree → Run Bool) (infer : List Hyp → Tree → Run Inferred)
    (whnfs : (ctx : List Hyp) (t : Tree) → KeepsLawOfFuel (whnf ctx t))
    (convs : (ctx : List Hyp) (mode : Mode) (t u : Tree) → KeepsLawOfFuel (conv ctx mode t u))
    (infers : (ctx : List Hyp) (t : Tree) → KeepsLawOfFuel (infer ctx t)) where
  law_as_sort : (ctx : List Hyp) (t : Tree) (used : List ℕ) → KeepsLawOfFuel (as_sort whnf conv infer ctx t used)
  law_as_sort ctx (Sorted s) used = search (fuel_laws)
  law_as_sort ctx t used = search (fuel_laws, law_must_be_sort)

  pub law_sort_of : (ctx : List Hyp) (a : Tree) → KeepsLawOfFuel (sort_of whnf conv infer ctx a)
  law_sort_of ctx a = search (fuel_laws, law_as_sort)

  law_must_be_arrow : (ctx : List Hyp) (used : List ℕ) (t : Tree) → KeepsLawOfFuel (must_be_arrow whnf conv infer ctx used t)
  law_must_be_arrow ctx used (Prod n a b) = search (fuel_laws, law_sort_of)
  law_must_be_arrow ctx used _ = search (fuel_laws)

  law_as_arrow : (ctx : List Hyp) (t : Tree) (used : List ℕ) → KeepsLawOfFuel (as_arrow whnf conv infer ctx t used)
  law_as_arrow ctx (Prod n a b) used = search (fuel_laws)
  law_as_arrow ctx t used = search (fuel_laws, law_must_be_arrow)

  pub law_check : (ctx : List Hyp) (t wanted : Tree) → KeepsLawOfFuel (check whnf conv infer ctx t wanted)
  law_check ctx t wanted = search (fuel_laws, law_sort_of) depth 12

  law_infer_by : (env : List Slot) (ctx : List Hyp) (t : Tree) → KeepsLawOfFuel (infer_by whnf conv infer env ctx t)
  law_infer_by env ctx (Var i) = search (fuel_laws)
  law_infer_by env ctx (Sorted s) = search (fuel_laws)
  law_infer_by env ctx (Constant c) = search (fuel_laws)
  law_infer_by env ctx (Prod n a b) = search (fuel_laws, law_sort_of) depth 12
  law_infer_by env ctx (Lam n a b) = search (fuel_laws, law_sort_of) depth 12
  law_infer_by env ctx (LetIn n a t b) = search (fuel_laws, law_sort_of, law_check) depth 12
  law_infer_by env ctx (App f v) = search (fuel_laws, law_as_arrow, law_check) depth 12

pub fuel_of_inference : FuelOfInference
unfolding infer_at
fuel_of_inference env zero ctx t = search (fuel_laws)
fuel_of_inference env (suc calls) ctx t =
    law_step (law_spend 1)
    (law_infer_by (whnf_at env true calls) (conv_at env calls) (infer_at env calls) (fuel_of_reduction env true calls)
    (fuel_of_conversion env calls) (fuel_of_inference env calls) env ctx t)

pub fuel_of_sorts : FuelOfSorts
fuel_of_sorts env calls ctx a =
    law_sort_of (whnf_at env true calls) (conv_at env calls) (infer_at env calls) (fuel_of_reduction env true calls)
    (fuel_of_conversion env calls) (fuel_of_inference env calls) ctx a

pub fuel_of_checks : FuelOfChecks
fuel_of_checks env calls ctx t wanted =
    law_check (whnf_at env true calls) (conv_at env calls) (infer_at env calls) (fuel_of_reduction env true calls)
    (fuel_of_conversion env calls) (fuel_of_inference env calls) ctx t wanted

law_row : (env : List Slot) (calls : ℕ) (ctx : List Hyp) (t : Tree) → KeepsLawOfFuel (row_at env calls ctx t)
unfolding row_at
law_row env zero ctx t = search (fuel_laws)
law_row env (suc calls) ctx (Prod n a b) = search (fuel_laws, fuel_of_sorts, law_row env calls) depth 12
law_row env (suc calls) ctx t = search (fuel_laws, fuel_of_sorts)

module _ (env : List Slot) (calls : ℕ) where
  law_params : (hs ctx : List Hyp) (used : List ℕ) → KeepsLawOfFuel (open_params env calls hs ctx used)
  law_params [] ctx used = search (fuel_laws)
  law_params (h ∷ hs) ctx used = search (fuel_laws, fuel_of_sorts, law_params hs) depth 12

module _ (d : InductiveDecl) where
  law_rows : (inner : List Slot) (place calls : ℕ) (ctx : List Hyp) (cs : List Ctor) → KeepsLawOfFuel (rows_of d inner place calls ctx cs)
  law_rows inner place calls ctx [] = search (fuel_laws)
  law_rows inner place calls ctx (c ∷ cs) =
      law_bind (law_row inner calls ctx c.ty) (λ r. law_step (law_require _ 31) (law_bind (law_rows inner place calls ctx cs) (λ more. law_pure _)))

  law_family : (env : List Slot) (calls : ℕ) (s : Sort) → KeepsLawOfFuel (check_family d env calls s)
  law_family env calls s = search (fuel_laws, fuel_of_sorts, law_params, law_rows) depth 16

module _ (env : List Slot) (calls : ℕ) where
  law_inductive : (d : InductiveDecl) → KeepsLawOfFuel (check_inductive_at env calls d)
  law_inductive d = search (fuel_laws, law_family) depth 12

  law_eliminators : (c : CheckedInductive) → KeepsLawOfFuel (give (eliminators env c))
  law_eliminators c = law_give (eliminators env c) (if_room_is (are_small (types_of (family_entries env c.decl c.used c.sorts))) _)

  law_assume : (name : List ℕ) (ty : Tree) (kind : EntryKind) → KeepsLawOfFuel (assume env calls name ty kind)
  law_assume name ty kind = search (fuel_laws, fuel_of_sorts)

  law_define : (name : List ℕ) (ty : Option Tree) (body : Tree) (kind : EntryKind) → KeepsLawOfFuel (define env calls name ty body kind)
  law_define name (Some ty) body kind = search (fuel_laws, fuel_of_sorts, fuel_of_checks) depth 12
  law_define name None body kind = search (fuel_laws, fuel_of_sorts, fuel_of_inference) depth 12

pub fuel_of_declarations : FuelOfDeclarations
unfolding declare_at
fuel_of_declarations env calls (Assume name ty) = search (fuel_laws, law_assume)
fuel_of_declarations env calls (Admit name ty) = search (fuel_laws, law_assume)
fuel_of_declarations env calls (Define name ty body opaque) = search (fuel_laws, law_define)
fuel_of_declarations env calls (Induct d) = search (fuel_laws, law_inductive, law_eliminators)
