-- The rows of constructors, one after another.
use Rattle.std.specs.Prelude.{◌≡◌, ℕ, ◌-◌, ◌≤◌, List, [], ◌∷◌, ◌++◌, length, Bool, true, false, ◌&&◌, Result, Ok, Err, refl}
use Rattle.std.proofs.Common.{arith, ap, sym, ◌∙◌}
use Rattle.base_core.specs.declared.refusals.Stop.{Stop}
use Rattle.base_core.specs.declared.refusals.Stop.TheVariants.{Refused, Out, NoMem}
use Rattle.core_term.specs.declared.sorts.Sort.{Sort}
use Rattle.core_term.specs.declared.sorts.Sort.TheVariants.{PropSort, SetSort, TypeSort}
use Rattle.cic_rules.specs.declared.context.Hyp.{Hyp}
use Rattle.cic_rules.specs.declared.decls.Ctor.{Ctor}
use Rattle.cic_rules.specs.declared.decls.InductiveDecl.{InductiveDecl}
use Rattle.cic_rules.specs.declared.env.Slot.{Slot}
use Rattle.cic_rules.specs.declared.families.RowSorts.{RowSorts}
use Rattle.cic_rules.specs.Fuel.{FuelState, IsSpentOf, left, calls_left}
use Rattle.cic_rules.specs.Runs.{Ran, Run, and_then, ◌>>=◌, ◌>>◌, pure, require}
use Rattle.cic_rules.specs.Infer.{union}
use Rattle.cic_rules.specs.Families.{count_indices}
use Rattle.cic_rules.specs.Inductive.{CtorSorts, ctor_sorts, row_fits, permitted, row_at, rows_of, params_of, is_constructors}
use Rattle.cic_rules.specs.Judges.{Meets}
use Rattle.inductive_check.specs.declared.forms.Form.{Form}
use Rattle.inductive_check.specs.Rows.{fits, row_domains, told_rows, with_rows}
use Rattle.inductive_check.specs.Steps.{MeetsRows, ctor_at, ctor_with, rows_behind, form_of}
use Rattle.inductive_check.proofs.FormLaws.{constructor_top}

-- the sorts of a row
pub row_next : (s r : Sort) (rs : List Sort) → row_fits s (r ∷ rs) ≡ (fits s r && row_fits s rs)
row_next PropSort r rs = refl
row_next SetSort r rs = refl
row_next (TypeSort i) r rs = refl

pub row_none : (s : Sort) → row_fits s [] ≡ true
row_none PropSort = refl
row_none SetSort = refl
row_none (TypeSort i) = refl

-- a proposition with several constructors
pub confined_many : (s : Sort) (rows : List RowSorts) → s ≡ PropSort → 2 ≤ length rows → permitted s (row_domains rows) ≡ PropSort ∷ []
confined_many s [] e many = absurd (omega (arith, many))
confined_many s (r ∷ []) e many = absurd (omega (arith, many))
confined_many s (r ∷ q ∷ rs) e many = ap (λ x. permitted x (row_domains (r ∷ q ∷ rs))) e

-- rows put behind others
told_more : (rows : List RowSorts) → with_rows rows (ctor_sorts [] []) ≡ told_rows rows
told_more [] = refl
told_more (r ∷ rs) = ap (λ q. ctor_sorts (r.domains ∷ q.rows) (union r.used q.used)) (told_more rs)

one_more : (rows : List RowSorts) (r : RowSorts) (q : CtorSorts) →
    with_rows rows (ctor_sorts (r.domains ∷ q.rows) (union r.used q.used)) ≡ with_rows (rows ++ (r ∷ [])) q
one_more [] r q = refl
one_more (x ∷ xs) r q = ap (λ p. ctor_sorts (x.domains ∷ p.rows) (union x.used p.used)) (one_more xs r q)

same_end : {A : Type 0} (a : Result A Stop) (units : ℕ) → and_then a (λ q. pure q) units ≡ record { answer = a; left = units }
same_end (Ok x) units = refl
same_end (Err stop) units = refl

module _ (inner : List Slot) (calls : ℕ) (ctx : List Hyp) (d : InductiveDecl) (place : ℕ) where
  rows_begin : (cs : List Ctor) (units : ℕ) → rows_of d inner place calls ctx cs units ≡ rows_behind inner calls ctx d place [] cs units
  rows_begin cs units =
      sym (same_end (rows_of d inner place calls ctx cs units).answer (rows_of d inner place calls ctx cs units).left)

  -- what follows a constructor's own run
  abbrev rest_of : List RowSorts → List Ctor → RowSorts → Run CtorSorts
  rest_of rows cs r = rows_of d inner place calls ctx cs >>= (λ q. pure (with_rows rows (ctor_sorts (r.domains ∷ q.rows) (union r.used q.used))))

  joined : {A B C : Type 0} (a : Result A Stop) (g : A → Run B) (h : B → Run C) (units : ℕ) →
      and_then (and_then a g units).answer h (and_then a g units).left ≡ and_then a (λ x. g x >>= h) units
  joined (Ok x) g h units = refl
  joined (Err stop) g h units = refl

  tested : (b : Bool) (r : RowSorts) (cs : List Ctor) (rows : List RowSorts) (units : ℕ) →
      ((require b 31 >> (rows_of d inner place calls ctx cs >>= (λ q. pure (ctor_sorts (r.domains ∷ q.rows) (union r.used q.used)))))
      >>= (λ q. pure (with_rows rows q))) units
      ≡ ((require b 31 >> pure r) >>= rest_of rows cs) units
  tested true r cs rows units =
      joined (rows_of d inner place calls ctx cs units).answer (λ q. pure (ctor_sorts (r.domains ∷ q.rows) (union r.used q.used))) (λ q. pure (with_rows rows q))
      (rows_of d inner place calls ctx cs units).left
  tested false r cs rows units = refl

  behind_row : (t : Ctor) (cs : List Ctor) (rows : List RowSorts) (a : Result RowSorts Stop) (units : ℕ) →
      (and_then (and_then a (λ r. require (is_constructors place (params_of d) (count_indices d) t.ty) 31
      >> (rows_of d inner place calls ctx cs >>= (λ q. pure (ctor_sorts (r.domains ∷ q.rows) (union r.used q.used))))) units).answer
      (λ q. pure (with_rows rows q))
      (and_then a (λ r. require (is_constructors place (params_of d) (count_indices d) t.ty) 31
      >> (rows_of d inner place calls ctx cs >>= (λ q. pure (ctor_sorts (r.domains ∷ q.rows) (union r.used q.used))))) units).left)
      ≡ and_then (and_then a (λ r. require (is_constructors place (params_of d) (count_indices d) t.ty) 31 >> pure r) units).answer (rest_of rows cs)
      (and_then a (λ r. require (is_constructors place (params_of d) (count_indices d) t.ty) 31 >> pure r) units).left
  behind_row t cs rows (Ok r) units = tested (is_constructors place (params_of d) (count_indices d) t.ty) r cs rows units
  behind_row t cs rows (Err stop) units = refl

  -- a constructor's own run first
  row_first : (c : Ctor) (cs : List Ctor) (rows : List RowSorts) (units : ℕ) →
      rows_behind inner calls ctx d place rows (c ∷ cs) units ≡ (ctor_at inner calls ctx (form_of place d) c >>= rest_of rows cs) units
  row_first c cs rows units =
      behind_row c cs rows (row_at inner calls ctx c.ty units).answer (row_at inner calls ctx c.ty units).left
      ∙ ap (λ b. ((row_at inner calls ctx c.ty >>= (λ r. require b 31 >> pure r)) >>= rest_of rows cs) units) (sym (constructor_top place d c.ty))

  same_rest : (rows : List RowSorts) (r : RowSorts) (a : Result CtorSorts Stop) (units : ℕ) →
      and_then a (λ q. pure (with_rows rows (ctor_sorts (r.domains ∷ q.rows) (union r.used q.used)))) units
      ≡ and_then a (λ q. pure (with_rows (rows ++ (r ∷ [])) q)) units
  same_rest rows r (Ok q) units = ap (λ p. record { answer = Ok p; left = units }) (one_more rows r q)
  same_rest rows r (Err stop) units = refl

  rest_is : (rows : List RowSorts) (r : RowSorts) (cs : List Ctor) (units : ℕ) →
      rest_of rows cs r units ≡ rows_behind inner calls ctx d place (rows ++ (r ∷ [])) cs units
  rest_is rows r cs units = same_rest rows r (rows_of d inner place calls ctx cs units).answer (rows_of d inner place calls ctx cs units).left

  pub row_done : (c : Ctor) (cs : List Ctor) (rows : List RowSorts) (r : RowSorts) (units later : ℕ) →
      Ok r ≡ (ctor_at inner calls ctx (form_of place d) c units).answer → later ≡ (ctor_at inner calls ctx (form_of place d) c units).left →
      rows_behind inner calls ctx d place rows (c ∷ cs) units ≡ rows_behind inner calls ctx d place (rows ++ (r ∷ [])) cs later
  row_done c cs rows r units later is at =
      row_first c cs rows units
      ∙ ap (λ a. and_then a (rest_of rows cs) (ctor_at inner calls ctx (form_of place d) c units).left) (sym is)
      ∙ ap (λ k. rest_of rows cs r k) (sym at) ∙ rest_is rows r cs later

  pub row_ended : (c : Ctor) (cs : List Ctor) (rows : List RowSorts) (stop : Stop) (units later : ℕ) →
      Err stop ≡ (ctor_at inner calls ctx (form_of place d) c units).answer → later ≡ (ctor_at inner calls ctx (form_of place d) c units).left →
      rows_behind inner calls ctx d place rows (c ∷ cs) units ≡ record { answer = Err stop; left = later }
  row_ended c cs rows stop units later is at =
      row_first c cs rows units
      ∙ ap (λ a. and_then a (rest_of rows cs) (ctor_at inner calls ctx (form_of place d) c units).left) (sym is)
      ∙ ap (λ k. record { answer = Err stop; left = k }) (sym at)

  pub rows_start : (cs : List Ctor) (units : ℕ) → rows_of d inner place calls ctx cs units ≡ rows_behind inner calls ctx d place [] cs units
  rows_start = rows_begin

  pub rows_told : (rows : List RowSorts) (units : ℕ) → rows_behind inner calls ctx d place rows [] units ≡ record { answer = Ok (told_rows rows); left = units }
  rows_told rows units = ap (λ q. record { answer = Ok q; left = units }) (told_more rows)

-- the same number of calls
same_calls : (f g : FuelState) → IsSpentOf f g → calls_left g ≡ calls_left f
same_calls f g kept = ap (λ k. 2000 - k) kept.nesting

module _ (inner : List Slot) (ctx : List Hyp) (d : InductiveDecl) (place : ℕ) where
  -- one more constructor
  pub rows_kept : (form : Form) (c : Ctor) (cs rest : List Ctor) (rows : List RowSorts) (r : RowSorts) (f0 f1 f2 : FuelState) (ran : Ran CtorSorts) →
      ran ≡ rows_behind inner (calls_left f0) ctx d place rows rest (left f1) → rest ≡ c ∷ cs → IsSpentOf f0 f1 → form ≡ form_of place d →
      (Ok r ≡ (ctor_with inner ctx form c f1).answer) × (left f2 ≡ (ctor_with inner ctx form c f1).left) →
      ran ≡ rows_behind inner (calls_left f0) ctx d place (rows ++ (r ∷ [])) cs (left f2)
  rows_kept form c cs rest rows r f0 f1 f2 ran is split kept formed meets =
      let here : ctor_with inner ctx form c f1 ≡ ctor_at inner (calls_left f0) ctx (form_of place d) c (left f1) =
      ap (λ k. ctor_at inner k ctx form c (left f1)) (same_calls f0 f1 kept) ∙ ap (λ f. ctor_at inner (calls_left f0) ctx f c (left f1)) formed in
      is ∙ ap (λ x. rows_behind inner (calls_left f0) ctx d place rows x (left f1)) split
      ∙ row_done inner (calls_left f0) ctx d place c cs rows r (left f1) (left f2) (meets.0 ∙ ap (λ x. x.answer) here) (meets.1 ∙ ap (λ x. x.left) here)

  -- a constructor that ends the run
  rows_cut_at : (form : Form) (c : Ctor) (cs rest : List Ctor) (rows : List RowSorts) (stop : Stop) (f0 f1 : FuelState) (later : ℕ) (ran : Ran CtorSorts) →
      ran ≡ rows_behind inner (calls_left f0) ctx d place rows rest (left f1) → rest ≡ c ∷ cs → IsSpentOf f0 f1 → form ≡ form_of place d →
      Err stop ≡ (ctor_with inner ctx form c f1).answer → later ≡ (ctor_with inner ctx form c f1).left →
      (Err stop ≡ ran.answer) × (later ≡ ran.left)
  rows_cut_at form c cs rest rows stop f0 f1 later ran is split kept formed ends at =
      let here : ctor_with inner ctx form c f1 ≡ ctor_at inner (calls_left f0) ctx (form_of place d) c (left f1) =
      ap (λ k. ctor_at inner k ctx form c (left f1)) (same_calls f0 f1 kept) ∙ ap (λ f. ctor_at inner (calls_left f0) ctx f c (left f1)) formed in
      let whole : ran ≡ record { answer = Err stop; left = later } =
      is ∙ ap (λ x. rows_behind inner (calls_left f0) ctx d place rows x (left f1)) split
      ∙ row_ended inner (calls_left f0) ctx d place c cs rows stop (left f1) later (ends ∙ ap (λ x. x.answer) here) (at ∙ ap (λ x. x.left) here) in
      (sym (ap (λ x. x.answer) whole), sym (ap (λ x. x.left) whole))

  pub rows_cut : (form : Form) (c : Ctor) (cs rest : List Ctor) (rows : List RowSorts) (stop : Stop) (f0 f1 : FuelState) (later : ℕ) (ran : Ran CtorSorts) →
      ran ≡ rows_behind inner (calls_left f0) ctx d place rows rest (left f1) → rest ≡ c ∷ cs → IsSpentOf f0 f1 → form ≡ form_of place d →
      Meets {A = RowSorts} (Err stop) later (ctor_with inner ctx form c f1) → MeetsRows (Err stop) later ran
  rows_cut form c cs rest rows (Refused x) f0 f1 later ran is split kept formed meets =
      rows_cut_at form c cs rest rows (Refused x) f0 f1 later ran is split kept formed meets.0 meets.1
  rows_cut form c cs rest rows (Out x) f0 f1 later ran is split kept formed meets =
      rows_cut_at form c cs rest rows (Out x) f0 f1 later ran is split kept formed meets.0 meets.1
  rows_cut form c cs rest rows NoMem f0 f1 later ran is split kept formed meets = tt

  -- all of them
  pub rows_met : (rest : List Ctor) (rows : List RowSorts) (calls units : ℕ) (ran : Ran CtorSorts) →
      ran ≡ rows_behind inner calls ctx d place rows rest units → rest ≡ [] → (Ok (told_rows rows) ≡ ran.answer) × (units ≡ ran.left)
  rows_met rest rows calls units ran is none =
      let whole : ran ≡ record { answer = Ok (told_rows rows); left = units } =
      is ∙ ap (λ x. rows_behind inner calls ctx d place rows x units) none ∙ rows_told inner calls ctx d place rows units in
      (sym (ap (λ x. x.answer) whole), sym (ap (λ x. x.left) whole))
