use Rattle.std.proofs.Common.{◌≡◌, ◌∙◌, ◌+◌, ◌-◌, ◌∷◌, Err, length, take, drop, ap, subst, arith}
use Rattle.core_term.specs.Tree.{Tree, Prod}
use Rattle.core_term.specs.Answers.{within_limits, Gives}
use Rattle.cic_rules.specs.Eliminators.{case_name}
use Rattle.inductive_check.specs.Labels.{with_type}
use Rattle.inductive_check.specs.Elimination.{with_binder, case_at, cases_at}
use Rattle.inductive_check.proofs.CaseLaws.{cases_next}
use Rattle.inductive_check.proofs.PartLaws.{same_term}
use Rattle.inductive_check.proofs.OverLaws.{slice_split, place_under, placed_later, prod_gives, rest_ends, domain_ends}
use Rattle.inductive_check.proofs.elimination.+cases.Goals as goal

pub cases-requires : goal.cases-requires
cases-requires t c =
    let split : c.args.ctors.now ≡ c.ctor-item.result ∷ take (length c.args.ctors.now - 1) (drop 1 c.args.ctors.now) =
    slice_split c.args.ctors.now c.ctor-item.result c.in-len1-up.len_at_least c.ctor-item.is in
    let shorter = ap length split in
    let deeper : c.in_ok-inner-in-len1-up.inner.depth ≡ c.args.site.now.depth + 1 = ap (λ s. s.depth) c.in_ok-inner-in-len1-up.ensures in
    let room = c.requires.room in
    let below = c.requires.below in
    let count = c.requires.count in (
      omega (arith, shorter),
      (
        c.requires.motive,
        (
          c.requires.env,
          (
            place_under c.args.site.now c.in_ok-inner-in-len1-up.inner c.args.i.now.decl.arity c.in_ok-inner-in-len1-up.ensures c.requires.arity (omega (arith, room)),
            (
              placed_later c.args.site.now c.in_ok-inner-in-len1-up.inner c.args.ctors.now c.ctor-item.result (take (length c.args.ctors.now - 1) (drop 1 c.args.ctors.now))
                  c.in_ok-inner-in-len1-up.ensures split c.requires.ctors,
              (omega (arith, below, deeper), (omega (arith, deeper, room, shorter), omega (arith, count, shorter))),
            ),
          ),
        ),
      ),
    )

pub returns-in-Ok-cases : goal.returns-in-Ok-cases
returns-in-Ok-cases t c =
    let split : c.args.ctors.now ≡ c.ctor-item.result ∷ take (length c.args.ctors.now - 1) (drop 1 c.args.ctors.now) =
    slice_split c.args.ctors.now c.ctor-item.result c.in-len1-up.len_at_least c.ctor-item.is in
    let e = with_type c.args.env.now c.args.i.now in
    let whole : cases_at e c.args.i.now c.args.m c.args.index c.args.site.now c.args.names.now c.args.ctors.now
    ≡ Prod (case_name c.ctor-item.result) (case_at e c.args.i.now c.args.m (c.args.i.now.place + 1 + c.args.index) c.args.site.now c.args.names.now c.ctor-item.result.ty)
    (cases_at e c.args.i.now c.args.m (c.args.index + 1) (with_binder c.args.site.now) (case_name c.ctor-item.result ∷ c.args.names.now) (take (length c.args.ctors.now - 1) (drop 1 c.args.ctors.now))) =
    ap (cases_at e c.args.i.now c.args.m c.args.index c.args.site.now c.args.names.now) split
    ∙ cases_next e c.args.i.now c.args.m c.args.index c.args.site.now c.args.names.now c.ctor-item.result (take (length c.args.ctors.now - 1) (drop 1 c.args.ctors.now))
    c.requires.below c.requires.arity.site.above in
    let rest : cases_at e c.args.i.now c.args.m (c.args.index + 1) c.in_ok-inner-in-len1-up.inner c.in_ok-within-in-len1-up.within (take (length c.args.ctors.now - 1) (drop 1 c.args.ctors.now))
    ≡ cases_at e c.args.i.now c.args.m (c.args.index + 1) (with_binder c.args.site.now) (case_name c.ctor-item.result ∷ c.args.names.now) (take (length c.args.ctors.now - 1) (drop 1 c.args.ctors.now)) =
    ap (λ q. cases_at e c.args.i.now c.args.m (c.args.index + 1) q c.in_ok-within-in-len1-up.within (take (length c.args.ctors.now - 1) (drop 1 c.args.ctors.now))) c.in_ok-inner-in-len1-up.ensures
    ∙ ap (λ ns. cases_at e c.args.i.now c.args.m (c.args.index + 1) (with_binder c.args.site.now) ns (take (length c.args.ctors.now - 1) (drop 1 c.args.ctors.now)))
    (c.in_ok-within-in-len1-up.ensures ∙ ap (λ l. l ∷ c.args.names.now) c.in_ok-name-in-len1-up.ensures) in
    prod_gives c.prod.result c.in_ok-name-in-len1-up.name (case_name c.ctor-item.result) c.in-Ok.case
    (case_at e c.args.i.now c.args.m (c.args.i.now.place + 1 + c.args.index) c.args.site.now c.args.names.now c.ctor-item.result.ty) c.in-Ok-cases.rest
    (cases_at e c.args.i.now c.args.m (c.args.index + 1) (with_binder c.args.site.now) (case_name c.ctor-item.result ∷ c.args.names.now) (take (length c.args.ctors.now - 1) (drop 1 c.args.ctors.now)))
    (cases_at e c.args.i.now c.args.m c.args.index c.args.site.now c.args.names.now c.args.ctors.now) c.in_ok-name-in-len1-up.ensures
    (same_term c.in-Ok.case (case_at e c.args.i.now c.args.m (c.args.i.now.place + 1 + c.args.index) c.args.site.now c.args.names.now c.ctor-item.result.ty) c.in-Ok.ensures)
    (c.in-Ok-cases.ensures ∙ ap within_limits rest) whole c.prod.ensures

pub returns-in-Err-cases : goal.returns-in-Err-cases
returns-in-Err-cases t c =
    let split : c.args.ctors.now ≡ c.ctor-item.result ∷ take (length c.args.ctors.now - 1) (drop 1 c.args.ctors.now) =
    slice_split c.args.ctors.now c.ctor-item.result c.in-len1-up.len_at_least c.ctor-item.is in
    let e = with_type c.args.env.now c.args.i.now in
    let whole : cases_at e c.args.i.now c.args.m c.args.index c.args.site.now c.args.names.now c.args.ctors.now
    ≡ Prod (case_name c.ctor-item.result) (case_at e c.args.i.now c.args.m (c.args.i.now.place + 1 + c.args.index) c.args.site.now c.args.names.now c.ctor-item.result.ty)
    (cases_at e c.args.i.now c.args.m (c.args.index + 1) (with_binder c.args.site.now) (case_name c.ctor-item.result ∷ c.args.names.now) (take (length c.args.ctors.now - 1) (drop 1 c.args.ctors.now))) =
    ap (cases_at e c.args.i.now c.args.m c.args.index c.args.site.now c.args.names.now) split
    ∙ cases_next e c.args.i.now c.args.m c.args.index c.args.site.now c.args.names.now c.ctor-item.result (take (length c.args.ctors.now - 1) (drop 1 c.args.ctors.now))
    c.requires.below c.requires.arity.site.above in
    let rest : cases_at e c.args.i.now c.args.m (c.args.index + 1) c.in_ok-inner-in-len1-up.inner c.in_ok-within-in-len1-up.within (take (length c.args.ctors.now - 1) (drop 1 c.args.ctors.now))
    ≡ cases_at e c.args.i.now c.args.m (c.args.index + 1) (with_binder c.args.site.now) (case_name c.ctor-item.result ∷ c.args.names.now) (take (length c.args.ctors.now - 1) (drop 1 c.args.ctors.now)) =
    ap (λ q. cases_at e c.args.i.now c.args.m (c.args.index + 1) q c.in_ok-within-in-len1-up.within (take (length c.args.ctors.now - 1) (drop 1 c.args.ctors.now))) c.in_ok-inner-in-len1-up.ensures
    ∙ ap (λ ns. cases_at e c.args.i.now c.args.m (c.args.index + 1) (with_binder c.args.site.now) ns (take (length c.args.ctors.now - 1) (drop 1 c.args.ctors.now)))
    (c.in_ok-within-in-len1-up.ensures ∙ ap (λ l. l ∷ c.args.names.now) c.in_ok-name-in-len1-up.ensures) in
    rest_ends c.in-Err-cases.stop (case_name c.ctor-item.result)
    (case_at e c.args.i.now c.args.m (c.args.i.now.place + 1 + c.args.index) c.args.site.now c.args.names.now c.ctor-item.result.ty)
    (cases_at e c.args.i.now c.args.m (c.args.index + 1) (with_binder c.args.site.now) (case_name c.ctor-item.result ∷ c.args.names.now) (take (length c.args.ctors.now - 1) (drop 1 c.args.ctors.now)))
    (cases_at e c.args.i.now c.args.m c.args.index c.args.site.now c.args.names.now c.args.ctors.now) whole
    (subst (λ x. Gives {A = Tree} (Err c.in-Err-cases.stop) (within_limits x)) rest c.in-Err-cases.ensures)

pub returns-in-Err : goal.returns-in-Err
returns-in-Err t c =
    let split : c.args.ctors.now ≡ c.ctor-item.result ∷ take (length c.args.ctors.now - 1) (drop 1 c.args.ctors.now) =
    slice_split c.args.ctors.now c.ctor-item.result c.in-len1-up.len_at_least c.ctor-item.is in
    let e = with_type c.args.env.now c.args.i.now in
    let whole : cases_at e c.args.i.now c.args.m c.args.index c.args.site.now c.args.names.now c.args.ctors.now
    ≡ Prod (case_name c.ctor-item.result) (case_at e c.args.i.now c.args.m (c.args.i.now.place + 1 + c.args.index) c.args.site.now c.args.names.now c.ctor-item.result.ty)
    (cases_at e c.args.i.now c.args.m (c.args.index + 1) (with_binder c.args.site.now) (case_name c.ctor-item.result ∷ c.args.names.now) (take (length c.args.ctors.now - 1) (drop 1 c.args.ctors.now))) =
    ap (cases_at e c.args.i.now c.args.m c.args.index c.args.site.now c.args.names.now) split
    ∙ cases_next e c.args.i.now c.args.m c.args.index c.args.site.now c.args.names.now c.ctor-item.result (take (length c.args.ctors.now - 1) (drop 1 c.args.ctors.now))
    c.requires.below c.requires.arity.site.above in
    domain_ends c.in-Err.stop (case_name c.ctor-item.result)
    (case_at e c.args.i.now c.args.m (c.args.i.now.place + 1 + c.args.index) c.args.site.now c.args.names.now c.ctor-item.result.ty)
    (cases_at e c.args.i.now c.args.m (c.args.index + 1) (with_binder c.args.site.now) (case_name c.ctor-item.result ∷ c.args.names.now) (take (length c.args.ctors.now - 1) (drop 1 c.args.ctors.now)))
    (cases_at e c.args.i.now c.args.m c.args.index c.args.site.now c.args.names.now c.args.ctors.now) whole c.in-Err.ensures
