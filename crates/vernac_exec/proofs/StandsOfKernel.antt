-- The kernel's refusals stand at the whole sentence.
use Rattle.std.proofs.Common.{ℕ, zero, suc, List, [], ◌∷◌, Bool, true, false, Option, Some, None}
use Rattle.core_term.specs.declared.sorts.Sort.{Sort}
use Rattle.core_term.specs.Tree.{Tree, Var, Sorted, Constant, Prod, Lam, LetIn, App}
use Rattle.term_spine.specs.Spine.{head_of, arguments_of}
use Rattle.cic_rules.specs.declared.context.Hyp.{Hyp}
use Rattle.cic_rules.specs.declared.decls.Ctor.{Ctor}
use Rattle.cic_rules.specs.declared.decls.Decl.{Decl}
use Rattle.cic_rules.specs.declared.decls.Decl.TheVariants.{Assume, Define, Admit, Induct}
use Rattle.cic_rules.specs.declared.decls.InductiveDecl.{InductiveDecl}
use Rattle.cic_rules.specs.declared.entries.EntryKind.{EntryKind}
use Rattle.cic_rules.specs.declared.env.Slot.{Slot}
use Rattle.cic_rules.specs.declared.families.CheckedInductive.{CheckedInductive}
use Rattle.cic_rules.specs.declared.judge.Inferred.{Inferred}
use Rattle.cic_rules.specs.declared.judge.Mode.{Mode}
use Rattle.cic_rules.specs.declared.judge.Mode.TheVariants.{Same}
use Rattle.cic_rules.specs.Families.{major_premise}
use Rattle.cic_rules.specs.Runs.{Run, give}
use Rattle.cic_rules.specs.Reduce.{Redex, Stuck, Reduces, OnMajor, contract, contract_iota, reduce_redex, reduce_step, redex_of, whnf_at}
use Rattle.cic_rules.specs.Convert.{Blocker, Sides, blocker_by, blocker_at, unfold_left, unfold_right, unfold_both, unfold_later, delta_step, unblock, conv_all, conv_spines, conv_heads, conv_binders, conv_eta, conv_reduced, conv_step, compare, conv_at}
use Rattle.cic_rules.specs.Infer.{must_be_sort, as_sort, sort_of, must_be_arrow, as_arrow, check, infer_by, infer_at, sort_of_at, check_at}
use Rattle.cic_rules.specs.Eliminators.{family_entries}
use Rattle.cic_rules.specs.Inductive.{row_at, open_params, rows_of, check_family, check_inductive_at}
use Rattle.cic_rules.specs.Declare.{are_small, types_of, eliminators, assume, define, declare_at}
use Rattle.vernac_exec.proofs.StandsLaws.{Stands, stands_pure, stands_bind, stands_step, stands_if, stands_spend, stands_require, stands_room, stands_loop, stands_laws}

module _ (P : ℕ → ℕ → Type 0) where
  at_contract : (units : ℕ) (to : Tree) → Stands P (contract units to)
  at_contract units to = search (stands_laws)

  at_iota : (t : Tree) (to : Option Tree) → Stands P (contract_iota t to)
  at_iota t None = search (stands_laws)
  at_iota t (Some to) = at_contract 1 to

  module _ (env : List Slot) (delta : Bool) where
    pub at_redex : (reduce : Tree → Run Tree) → ((v : Tree) → Stands P (reduce v)) → (t : Tree) (redex : Redex) →
        Stands P (reduce_redex env delta reduce t redex)
    at_redex reduce at t Stuck = search (stands_laws)
    at_redex reduce at t (Reduces units to) = at_contract units to
    at_redex reduce at t (OnMajor major) = search (stands_laws, at_iota)

    pub at_whnf : (calls : ℕ) (ctx : List Hyp) (t : Tree) → Stands P (whnf_at env delta calls ctx t)
    unfolding whnf_at
    at_whnf zero ctx t = search (stands_laws)
    at_whnf (suc calls) ctx t =
        stands_loop P (reduce_step env delta (whnf_at env delta calls ctx) ctx)
        (λ u. at_redex (whnf_at env delta calls ctx) (at_whnf calls ctx) u (redex_of env delta ctx (head_of u) (arguments_of u))) t

  module _ (env : List Slot) (head : Tree → Run Tree) (heads : (t : Tree) → Stands P (head t)) where
    at_blocker_by : (inner : Tree → Run (Option Blocker)) → ((t : Tree) → Stands P (inner t)) → (t h : Tree) (body major : Option Tree) →
        Stands P (blocker_by env head inner t h body major)
    at_blocker_by inner at t (Constant c) (Some body) major = search (stands_laws)
    at_blocker_by inner at t h None (Some major) = search (stands_laws)
    at_blocker_by inner at t h _ _ = search (stands_laws)

    at_blocker : (majors : ℕ) (t : Tree) → Stands P (blocker_at env head majors t)
    unfolding blocker_at
    at_blocker zero t = search (stands_laws)
    at_blocker (suc majors) t = at_blocker_by (blocker_at env head majors) (at_blocker majors) t (head_of t) _ (major_premise env (head_of t) (arguments_of t))

  at_left : (b : Blocker) (u : Tree) → Stands P (unfold_left b u)
  at_left b u = search (stands_laws)

  at_right : (t : Tree) (c : Blocker) → Stands P (unfold_right t c)
  at_right t c = search (stands_laws)

  at_both : (b c : Blocker) → Stands P (unfold_both b c)
  at_both b c = search (stands_laws, at_right)

  at_later : (t u : Tree) (b c : Blocker) → Stands P (unfold_later t u b c)
  at_later t u b c = search (stands_laws, at_left, at_right)

  at_delta : (t u : Tree) (b c : Option Blocker) → Stands P (delta_step t u b c)
  at_delta t u None None = search (stands_laws)
  at_delta t u (Some b) None = at_left b u
  at_delta t u None (Some c) = at_right t c
  at_delta t u (Some b) (Some c) = search (stands_laws, at_both, at_later)

  module _ (env : List Slot) (calls : ℕ) (head : List Hyp → Tree → Run Tree) (conv : List Hyp → Mode → Tree → Tree → Run Bool)
      (heads : (ctx : List Hyp) (t : Tree) → Stands P (head ctx t))
      (convs : (ctx : List Hyp) (mode : Mode) (t u : Tree) → Stands P (conv ctx mode t u)) where
    at_stuck : (ctx : List Hyp) (t : Tree) → Stands P (blocker_at env (head ctx) calls t)
    at_stuck ctx t = at_blocker env (head ctx) (heads ctx) calls t

    at_unblock : (ctx : List Hyp) (t u : Tree) → Stands P (unblock env calls head conv ctx t u)
    at_unblock ctx t u = search (stands_laws, at_stuck, at_delta)

    at_all : (ctx : List Hyp) (ts us : List Tree) → Stands P (conv_all env calls head conv ctx ts us)
    at_all ctx (t ∷ ts) (u ∷ us) = stands_bind (convs ctx Same t u) (λ same. stands_if same (at_all ctx ts us) (stands_pure _))
    at_all ctx _ _ = search (stands_laws)

    at_spines : (ctx : List Hyp) (t u : Tree) → Stands P (conv_spines env calls head conv ctx t u)
    at_spines ctx t u = search (stands_laws, at_all, at_unblock) depth 12

    at_heads : (ctx : List Hyp) (t u g h : Tree) → Stands P (conv_heads env calls head conv ctx t u g h)
    at_heads ctx t u (Var i) (Var j) = search (stands_laws, at_spines, at_unblock)
    at_heads ctx t u (Constant c) (Constant d) = search (stands_laws, at_spines, at_unblock)
    at_heads ctx t u _ _ = at_unblock ctx t u

    at_binders : (ctx : List Hyp) (mode : Mode) (n : List ℕ) (a b c d : Tree) → Stands P (conv_binders env calls head conv ctx mode n a b c d)
    at_binders ctx mode n a b c d = search (stands_laws) depth 12

    at_eta : (ctx : List Hyp) (n : List ℕ) (a applied t u : Tree) → Stands P (conv_eta env calls head conv ctx n a applied t u)
    at_eta ctx n a applied t u = search (stands_laws) depth 12

    at_reduced : (ctx : List Hyp) (mode : Mode) (t u : Tree) → Stands P (conv_reduced env calls head conv ctx mode t u)
    at_reduced ctx mode (Sorted s) (Sorted r) = search (stands_laws)
    at_reduced ctx mode (Prod n a b) (Prod m c d) = at_binders ctx mode n a b c d
    at_reduced ctx mode (Lam n a b) (Lam m c d) = at_binders ctx Same n a b c d
    at_reduced ctx mode (Lam n a b) u = search (stands_laws, at_eta, at_unblock)
    at_reduced ctx mode t (Lam m c d) = search (stands_laws, at_eta, at_unblock)
    at_reduced ctx mode t u = at_heads ctx t u (head_of t) (head_of u)

    at_turn : (ctx : List Hyp) (mode : Mode) (sides : Sides) → Stands P (conv_step env calls head conv ctx mode sides)
    at_turn ctx mode sides = search (stands_laws, at_reduced)

    at_compare : (ctx : List Hyp) (mode : Mode) (t u : Tree) → Stands P (compare env calls head conv ctx mode t u)
    at_compare ctx mode t u = stands_if _ (stands_pure true) (stands_loop P (conv_step env calls head conv ctx mode) (at_turn ctx mode) (t, u))

  module _ (env : List Slot) where
    pub at_conv : (calls : ℕ) (ctx : List Hyp) (mode : Mode) (t u : Tree) → Stands P (conv_at env calls ctx mode t u)
    unfolding conv_at
    at_conv zero ctx mode t u = search (stands_laws)
    at_conv (suc calls) ctx mode t u =
        stands_step (stands_spend _)
        (at_compare env calls (whnf_at env false calls) (conv_at env calls) (at_whnf env false calls) (at_conv calls) ctx mode t u)

  at_must_be_sort : (used : List ℕ) (t : Tree) → Stands P (must_be_sort used t)
  at_must_be_sort used (Sorted s) = search (stands_laws)
  at_must_be_sort used _ = search (stands_laws)

  module _ (whnf : List Hyp → Tree → Run Tree) (conv : List Hyp → Mode → Tree → Tree → Run Bool) (infer : List Hyp → Tree → Run Inferred)
      (whnfs : (ctx : List Hyp) (t : Tree) → Stands P (whnf ctx t))
      (convs : (ctx : List Hyp) (mode : Mode) (t u : Tree) → Stands P (conv ctx mode t u))
      (infers : (ctx : List Hyp) (t : Tree) → Stands P (infer ctx t)) where
    at_as_sort : (ctx : List Hyp) (t : Tree) (used : List ℕ) → Stands P (as_sort whnf conv infer ctx t used)
    at_as_sort ctx (Sorted s) used = search (stands_laws)
    at_as_sort ctx t used = search (stands_laws, at_must_be_sort)

    at_sort_of : (ctx : List Hyp) (a : Tree) → Stands P (sort_of whnf conv infer ctx a)
    at_sort_of ctx a = search (stands_laws, at_as_sort)

    at_must_be_arrow : (ctx : List Hyp) (used : List ℕ) (t : Tree) → Stands P (must_be_arrow whnf conv infer ctx used t)
    at_must_be_arrow ctx used (Prod n a b) = search (stands_laws, at_sort_of)
    at_must_be_arrow ctx used _ = search (stands_laws)

    at_as_arrow : (ctx : List Hyp) (t : Tree) (used : List ℕ) → Stands P (as_arrow whnf conv infer ctx t used)
    at_as_arrow ctx (Prod n a b) used = search (stands_laws)
    at_as_arrow ctx t used = search (stands_laws, at_must_be_arrow)

    at_check : (ctx : List Hyp) (t wanted : Tree) → Stands P (check whnf conv infer ctx t wanted)
    at_check ctx t wanted = search (stands_laws, at_sort_of) depth 12

    at_infer_by : (env : List Slot) (ctx : List Hyp) (t : Tree) → Stands P (infer_by whnf conv infer env ctx t)
    at_infer_by env ctx (Var i) = search (stands_laws)
    at_infer_by env ctx (Sorted s) = search (stands_laws)
    at_infer_by env ctx (Constant c) = search (stands_laws)
    at_infer_by env ctx (Prod n a b) = search (stands_laws, at_sort_of) depth 12
    at_infer_by env ctx (Lam n a b) = search (stands_laws, at_sort_of) depth 12
    at_infer_by env ctx (LetIn n a t b) = search (stands_laws, at_sort_of, at_check) depth 12
    at_infer_by env ctx (App f v) = search (stands_laws, at_as_arrow, at_check) depth 12

  module _ (env : List Slot) where
    pub at_infer : (calls : ℕ) (ctx : List Hyp) (t : Tree) → Stands P (infer_at env calls ctx t)
    unfolding infer_at
    at_infer zero ctx t = search (stands_laws)
    at_infer (suc calls) ctx t =
        stands_step (stands_spend 1)
        (at_infer_by (whnf_at env true calls) (conv_at env calls) (infer_at env calls) (at_whnf env true calls) (at_conv env calls)
        (at_infer calls) env ctx t)

    pub at_sort : (calls : ℕ) (ctx : List Hyp) (a : Tree) → Stands P (sort_of_at env calls ctx a)
    at_sort calls ctx a =
        at_sort_of (whnf_at env true calls) (conv_at env calls) (infer_at env calls) (at_whnf env true calls) (at_conv env calls) (at_infer calls) ctx a

    pub at_checked : (calls : ℕ) (ctx : List Hyp) (t wanted : Tree) → Stands P (check_at env calls ctx t wanted)
    at_checked calls ctx t wanted =
        at_check (whnf_at env true calls) (conv_at env calls) (infer_at env calls) (at_whnf env true calls) (at_conv env calls) (at_infer calls) ctx t wanted

    at_row : (calls : ℕ) (ctx : List Hyp) (t : Tree) → Stands P (row_at env calls ctx t)
    unfolding row_at
    at_row zero ctx t = search (stands_laws)
    at_row (suc calls) ctx (Prod n a b) = search (stands_laws, at_sort, at_row calls) depth 12
    at_row (suc calls) ctx t = search (stands_laws, at_sort)

    at_params : (calls : ℕ) (hs ctx : List Hyp) (used : List ℕ) → Stands P (open_params env calls hs ctx used)
    at_params calls [] ctx used = search (stands_laws)
    at_params calls (h ∷ hs) ctx used = search (stands_laws, at_sort, at_params calls hs) depth 12

  module _ (d : InductiveDecl) where
    at_rows : (inner : List Slot) (place calls : ℕ) (ctx : List Hyp) (cs : List Ctor) → Stands P (rows_of d inner place calls ctx cs)
    at_rows inner place calls ctx [] = search (stands_laws)
    at_rows inner place calls ctx (c ∷ cs) =
        stands_bind (at_row inner calls ctx c.ty) (λ r. stands_step (stands_require _ 31) (stands_bind (at_rows inner place calls ctx cs) (λ more. stands_pure _)))

    at_family : (env : List Slot) (calls : ℕ) (s : Sort) → Stands P (check_family d env calls s)
    at_family env calls s = search (stands_laws, at_sort, at_params, at_rows) depth 16

  module _ (env : List Slot) (calls : ℕ) where
    at_inductive : (d : InductiveDecl) → Stands P (check_inductive_at env calls d)
    at_inductive d = search (stands_laws, at_family) depth 12

    at_eliminators : (c : CheckedInductive) → Stands P (give (eliminators env c))
    at_eliminators c = stands_room (are_small (types_of (family_entries env c.decl c.used c.sorts))) _

    at_assume : (name : List ℕ) (ty : Tree) (kind : EntryKind) → Stands P (assume env calls name ty kind)
    at_assume name ty kind = search (stands_laws, at_sort)

    at_define : (name : List ℕ) (ty : Option Tree) (body : Tree) (kind : EntryKind) → Stands P (define env calls name ty body kind)
    at_define name (Some ty) body kind = search (stands_laws, at_sort, at_checked) depth 12
    at_define name None body kind = search (stands_laws, at_sort, at_infer) depth 12

    pub at_declare : (d : Decl) → Stands P (declare_at env calls d)
    unfolding declare_at
    at_declare (Assume name ty) = search (stands_laws, at_assume)
    at_declare (Admit name ty) = search (stands_laws, at_assume)
    at_declare (Define name ty body opaque) = search (stands_laws, at_define)
    at_declare (Induct d) = search (stands_laws, at_inductive, at_eliminators)
