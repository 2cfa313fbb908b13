-- What is derived in an environment is derived in each longer one.
use Rattle.std.specs.Prelude.{◌≡◌, ℕ, zero, suc, List, [], ◌∷◌, ◌++◌, Option, Some, None, slice_get, refl}
use Rattle.std.proofs.Common.{ap, ◌∙◌}
use Rattle.core_term.specs.Tree.{Tree, Constant}
use Rattle.term_spine.specs.Spine.{head_of, arguments_of}
use Rattle.cic_rules.specs.declared.context.Hyp.{Hyp}
use Rattle.cic_rules.specs.declared.decls.InductiveDecl.{InductiveDecl}
use Rattle.cic_rules.specs.declared.entries.Entry.{Entry}
use Rattle.cic_rules.specs.declared.entries.EntryKind.{EntryKind}
use Rattle.cic_rules.specs.declared.entries.EntryKind.TheVariants.{Assumed, Admitted, Defined, Inductive, Constructor, Eliminator}
use Rattle.cic_rules.specs.declared.env.Slot.{Slot}
use Rattle.cic_rules.specs.Environments.{slot_entry, slot_decl, entry_at, entry_type, entry_body, type_of_global, body_of_global, decl_at}
use Rattle.cic_rules.specs.Families.{Family, family_at, eliminated, eliminated_by, eliminator_of, constructed_by, constructor_of, value_among, major_premise, iota_index, iota_family, iota}
use Rattle.cic_rules.specs.Derive.{Conv, Refl, Sym, Trans, InProduct, InLambda, InLet, InApply, Beta, Zeta, OfContext, Delta, Iota, Eta, Cumul, Equal, Sorts, Codomains, CumulTrans, WfContext, Empty, Assumes, Defines, HasType, OfSort, OfVariable, OfGlobal, OfProduct, OfLambda, OfApply, OfLet, Converts, Alpha}
use Rattle.cic_rules.specs.Laws.{HasAll}
use Rattle.cic_soundness.specs.Laws.{DerivationsStay}

clash : {A B : Type 0} (o : Option A) (x : A) → o ≡ None → o ≡ Some x → B
clash o x none some = cc

-- what is found at a place stays there
pub found_more : {A B : Type 0} (g : Option A → Option B) → g None ≡ None → (xs ys : List A) (i : ℕ) (b : B) → g (slice_get xs i) ≡ Some b →
    g (slice_get (xs ++ ys) i) ≡ Some b
found_more g none [] ys i b e = clash (g None) b none e
found_more g none (x ∷ xs) ys zero b e = e
found_more g none (x ∷ xs) ys (suc i) b e = found_more g none xs ys i b e

module _ (env more : List Slot) where
  pub entry_more : (c : ℕ) (x : Entry) → entry_at env c ≡ Some x → entry_at (env ++ more) c ≡ Some x
  entry_more c x e = found_more slot_entry refl env more c x e

  pub decl_more : (c : ℕ) (d : InductiveDecl) → decl_at env c ≡ Some d → decl_at (env ++ more) c ≡ Some d
  decl_more c d e = found_more slot_decl refl env more c d e

  type_more : (c : ℕ) (t : Tree) → type_of_global env c ≡ Some t → type_of_global (env ++ more) c ≡ Some t
  type_more c t e = found_more (λ o. entry_type (slot_entry o)) refl env more c t e

  body_more : (c : ℕ) (t : Tree) → body_of_global env c ≡ Some t → body_of_global (env ++ more) c ≡ Some t
  body_more c t e = found_more (λ o. entry_body (slot_entry o)) refl env more c t e

  kind_more : (kind : EntryKind) (f : Family) → eliminated env kind ≡ Some f → eliminated (env ++ more) kind ≡ Some f
  kind_more Assumed f e = cc
  kind_more Admitted f e = cc
  kind_more (Defined body opaque) f e = cc
  kind_more (Inductive n) f e = cc
  kind_more (Constructor of index) f e = cc
  kind_more (Eliminator of sort) f e = found_more (λ o. family_at of (slot_decl o)) refl env more of f e

  eliminated_more : (c : ℕ) (found : Option Entry) (f : Family) → entry_at env c ≡ found → eliminated_by env found ≡ Some f →
      eliminated_by (env ++ more) (entry_at (env ++ more) c) ≡ Some f
  eliminated_more c None f is e = cc
  eliminated_more c (Some x) f is e = ap (λ o. eliminated_by (env ++ more) o) (entry_more c x is) ∙ kind_more x.kind f e

  eliminator_more : (head : Tree) (f : Family) → eliminator_of env head ≡ Some f → eliminator_of (env ++ more) head ≡ Some f
  eliminator_more (Constant c) f e = eliminated_more c (entry_at env c) f refl e
  eliminator_more _ f e = cc

  constructor_more : (place : ℕ) (head : Tree) (k : ℕ) → constructor_of env place head ≡ Some k → constructor_of (env ++ more) place head ≡ Some k
  constructor_more place (Constant c) k e = found_more (λ o. constructed_by place (slot_entry o)) refl env more c k e
  constructor_more place _ k e = cc

  major_by : (head : Tree) (args : List Tree) (found : Option Family) (v : Tree) → eliminator_of env head ≡ found → value_among args found ≡ Some v →
      major_premise (env ++ more) head args ≡ Some v
  major_by head args None v is e = cc
  major_by head args (Some f) v is e = ap (λ x. value_among args x) (eliminator_more head f is) ∙ e

  major_more : (head : Tree) (args : List Tree) (v : Tree) → major_premise env head args ≡ Some v → major_premise (env ++ more) head args ≡ Some v
  major_more head args v e = major_by head args (eliminator_of env head) v refl e

  index_more : (f : Family) (head : Tree) (args : List Tree) (w t : Tree) (found : Option ℕ) → constructor_of env f.place (head_of w) ≡ found →
      iota_index f head args found (arguments_of w) ≡ Some t → iota_family (env ++ more) (Some f) head args w ≡ Some t
  index_more f head args w t None is e = cc
  index_more f head args w t (Some k) is e =
      ap (λ x. iota_index f head args x (arguments_of w)) (constructor_more f.place (head_of w) k is) ∙ e

  iota_by : (head : Tree) (args : List Tree) (w t : Tree) (found : Option Family) → eliminator_of env head ≡ found → iota_family env found head args w ≡ Some t →
      iota (env ++ more) head args w ≡ Some t
  iota_by head args w t None is e = cc
  iota_by head args w t (Some f) is e =
      ap (λ x. iota_family (env ++ more) x head args w) (eliminator_more head f is)
      ∙ index_more f head args w t (constructor_of env f.place (head_of w)) refl e

  iota_more : (head : Tree) (args : List Tree) (w t : Tree) → iota env head args w ≡ Some t → iota (env ++ more) head args w ≡ Some t
  iota_more head args w t e = iota_by head args w t (eliminator_of env head) refl e

  pub conv_more : {ctx : List Hyp} {t u : Tree} → Conv env ctx t u → Conv (env ++ more) ctx t u
  conv_more (Refl ctx t) = Refl ctx t
  conv_more (Sym h) = Sym (conv_more h)
  conv_more (Trans h k) = Trans (conv_more h) (conv_more k)
  conv_more (InProduct n m h k) = InProduct n m (conv_more h) (conv_more k)
  conv_more (InLambda n m h k) = InLambda n m (conv_more h) (conv_more k)
  conv_more (InLet n m h k l) = InLet n m (conv_more h) (conv_more k) (conv_more l)
  conv_more (InApply h k) = InApply (conv_more h) (conv_more k)
  conv_more (Beta ctx n a b v) = Beta ctx n a b v
  conv_more (Zeta ctx n a t b) = Zeta ctx n a t b
  conv_more (OfContext ctx i t e) = OfContext ctx i t e
  conv_more (Delta ctx c t e) = Delta ctx c t (body_more c t e)
  conv_more (Iota ctx c args value t e f) =
      Iota ctx c args value t (major_more (Constant c) args value e) (iota_more (Constant c) args value t f)
  conv_more (Eta ctx n a f) = Eta ctx n a f

  pub cumul_more : {ctx : List Hyp} {t u : Tree} → Cumul env ctx t u → Cumul (env ++ more) ctx t u
  cumul_more (Equal h) = Equal (conv_more h)
  cumul_more (Sorts ctx s r e) = Sorts ctx s r e
  cumul_more (Codomains n m h k) = Codomains n m (conv_more h) (cumul_more k)
  cumul_more (CumulTrans h k) = CumulTrans (cumul_more h) (cumul_more k)

  module _ {used all : List ℕ} (has_all : HasAll used all) where
    mutual
      pub formed_later : {ctx : List Hyp} → WfContext env used ctx → WfContext (env ++ more) all ctx
      formed_later Empty = Empty
      formed_later (Assumes n s f a) = Assumes n s (formed_later f) (derives_later a)
      formed_later (Defines n s f a t) = Defines n s (formed_later f) (derives_later a) (derives_later t)

      pub derives_later : {ctx : List Hyp} {t a : Tree} → HasType env used ctx t a → HasType (env ++ more) all ctx t a
      derives_later (OfSort s r f e) = OfSort s r (formed_later f) e
      derives_later (OfVariable i a f e) = OfVariable i a (formed_later f) e
      derives_later (OfGlobal c a f u e) = OfGlobal c a (formed_later f) (has_all c u) (type_more c a e)
      derives_later (OfProduct n s r a b) = OfProduct n s r (derives_later a) (derives_later b)
      derives_later (OfLambda n s p t) = OfLambda n s (derives_later p) (derives_later t)
      derives_later (OfApply n f v) = OfApply n (derives_later f) (derives_later v)
      derives_later (OfLet n s a t b) = OfLet n s (derives_later a) (derives_later t) (derives_later b)
      derives_later (Converts s t e a) = Converts s (derives_later t) (cumul_more e) (derives_later a)
      derives_later (Alpha t e) = Alpha (derives_later t) e

pub derivations_stay : DerivationsStay
derivations_stay = record {
  converts = λ (env more : List Slot) (ctx : List Hyp) (t u : Tree) (h : Conv env ctx t u). conv_more env more h;
  below = λ (env more : List Slot) (ctx : List Hyp) (t u : Tree) (h : Cumul env ctx t u). cumul_more env more h;
  formed = λ (env more : List Slot) (used all : List ℕ) (ctx : List Hyp) (has_all : HasAll used all) (f : WfContext env used ctx). formed_later env more has_all f;
  derives = λ (env more : List Slot) (used all : List ℕ) (ctx : List Hyp) (t a : Tree) (has_all : HasAll used all) (d : HasType env used ctx t a). derives_later env more has_all d;
}
