use Rattle.std.proofs.Common.{◌≡◌, ◌∙◌, ◌+◌, ◌∷◌, true, false, Err, sym, ap, subst, arith}
use Rattle.core_term.specs.Tree.{Tree, Prod}
use Rattle.core_term.specs.Nodes.{tree_of}
use Rattle.core_term.specs.Answers.{within_limits, Gives}
use Rattle.cic_rules.specs.Eliminators.{hypothesis_name}
use Rattle.term_spine.specs.Instantiate.{instantiate}
use Rattle.inductive_check.specs.Labels.{with_type}
use Rattle.inductive_check.specs.Elimination.{values_of, case_at, hypothesis_at, with_variable, with_binder}
use Rattle.inductive_check.proofs.CaseLaws.{case_plain, case_recursive}
use Rattle.inductive_check.proofs.OverLaws.{place_more, place_under, site_more, two_gives, second_stop, third_stop}
use Rattle.inductive_check.proofs.elimination.+case.Goals as goal

pub case_type-returns-then-mentions : goal.case_type-returns-then-mentions
case_type-returns-then-mentions t c =
    let prod : c.args.ty.now ≡ Prod c.in-Prod.name c.in-Prod.domain c.in-Prod.codomain = sym c.node.ensures.top ∙ ap tree_of c.in-Prod.is in
    let told : c.mentions.result ≡ true = grind (arith, c.if-mentions.true) in
    let room = c.requires.room in
    let site = c.requires.place.site in
    subst (λ x. Gives c.recursive_case.result (within_limits x))
    (sym (ap (case_at (with_type c.args.env.now c.args.i.now) c.args.i.now c.args.m c.args.ctor c.args.site.now c.args.names.now) prod
    ∙ case_recursive (with_type c.args.env.now c.args.i.now) c.args.i.now c.args.m c.args.ctor c.args.site.now c.args.names.now c.in_ok-name-in-Prod.name
    c.in-Prod.name c.in-Prod.domain c.in-Prod.codomain c.requires.below site.above (site_more c.args.site.now site (omega (arith, room))).above
    (sym c.mentions.ensures ∙ told) c.in_ok-name-in-Prod.ensures)) c.recursive_case.ensures

pub case_type-returns-else-mentions : goal.case_type-returns-else-mentions
case_type-returns-else-mentions t c =
    let prod : c.args.ty.now ≡ Prod c.in-Prod.name c.in-Prod.domain c.in-Prod.codomain = sym c.node.ensures.top ∙ ap tree_of c.in-Prod.is in
    let told : c.mentions.result ≡ false = grind (arith, c.if-mentions.false) in
    subst (λ x. Gives c.plain_case.result (within_limits x))
    (sym (ap (case_at (with_type c.args.env.now c.args.i.now) c.args.i.now c.args.m c.args.ctor c.args.site.now c.args.names.now) prod
    ∙ case_plain (with_type c.args.env.now c.args.i.now) c.args.i.now c.args.m c.args.ctor c.args.site.now c.args.names.now c.in_ok-name-in-Prod.name
    c.in-Prod.name c.in-Prod.domain c.in-Prod.codomain c.requires.below c.requires.place.site.above (sym c.mentions.ensures ∙ told) c.in_ok-name-in-Prod.ensures))
    c.plain_case.ensures

pub plain_case-case_type-requires : goal.plain_case-case_type-requires
plain_case-case_type-requires t c =
    let deeper : c.in_ok-inner.inner.depth ≡ c.args.site.now.depth + 1 = ap (λ s. s.depth) c.in_ok-inner.ensures in
    let room = c.requires.room in
    let below = c.requires.below in (
      omega arith,
      (
        c.requires.motive,
        (
          c.requires.env,
          (
            place_more c.args.site.now c.in_ok-inner.inner c.args.b.now c.in_ok-inner.ensures c.requires.first.site (omega (arith, room)) c.requires.rest,
            (omega (arith, below, deeper), omega (arith, deeper, room)),
          ),
        ),
      ),
    )

pub recursive_case-hypothesis-requires-clause-place : goal.recursive_case-hypothesis-requires-clause-place
recursive_case-hypothesis-requires-clause-place t c =
    let room = c.requires.room in
    place_under c.args.site.now c.in_ok-under.under c.args.a.now c.in_ok-under.ensures c.requires.first (omega (arith, room))

pub recursive_case-case_type-requires : goal.recursive_case-case_type-requires
recursive_case-case_type-requires t c =
    let deeper : c.in_ok-inner.inner.depth ≡ c.args.site.now.depth + 1 = ap (λ s. s.depth) c.in_ok-inner.ensures in
    let deepest : c.in_ok-behind.behind.depth ≡ c.in_ok-inner.inner.depth + 1 = ap (λ s. s.depth) c.in_ok-behind.ensures in
    let room = c.requires.room in
    let below = c.requires.below in (
      omega arith,
      (
        c.requires.motive,
        (
          c.requires.env,
          (
            place_under c.in_ok-inner.inner c.in_ok-behind.behind c.args.b.now c.in_ok-behind.ensures
                (place_more c.args.site.now c.in_ok-inner.inner c.args.b.now c.in_ok-inner.ensures c.requires.first.site (omega (arith, room)) c.requires.rest)
                (omega (arith, deeper, room)),
            (omega (arith, below, deeper, deepest), omega (arith, deeper, deepest, room)),
          ),
        ),
      ),
    )

pub recursive_case-returns-in-Ok-case_type : goal.recursive_case-returns-in-Ok-case_type
recursive_case-returns-in-Ok-case_type t c =
    let e = with_type c.args.env.now c.args.i.now in
    let at : c.in_ok-behind.behind ≡ with_binder (with_variable c.args.site.now) = c.in_ok-behind.ensures ∙ ap with_binder c.in_ok-inner.ensures in
    let seen : c.in_ok-within.within ≡ hypothesis_name c.args.name ∷ c.args.name ∷ c.args.names.now =
    c.in_ok-within.ensures ∙ ap (λ ns. c.in_ok-label.label ∷ ns) c.in_ok-seen.ensures ∙ ap (λ l. l ∷ c.args.name ∷ c.args.names.now) c.in_ok-label.ensures in
    let rest : case_at e c.args.i.now c.args.m c.args.ctor c.in_ok-behind.behind c.in_ok-within.within c.args.b.now
    ≡ case_at e c.args.i.now c.args.m c.args.ctor (with_binder (with_variable c.args.site.now)) (hypothesis_name c.args.name ∷ c.args.name ∷ c.args.names.now) c.args.b.now =
    ap (λ q. case_at e c.args.i.now c.args.m c.args.ctor q c.in_ok-within.within c.args.b.now) at
    ∙ ap (λ ns. case_at e c.args.i.now c.args.m c.args.ctor (with_binder (with_variable c.args.site.now)) ns c.args.b.now) seen in
    two_gives c.two_products.result c.args.name c.in_ok-label.label (hypothesis_name c.args.name) c.in-Ok.domain
    (instantiate (values_of c.args.site.now) c.args.a.now)
    c.in-Ok-hypothesis.says
    (hypothesis_at (with_type c.args.env.now c.args.i.now) c.args.i.now c.args.m (with_binder c.args.site.now) 0 c.args.a.now)
    c.in-Ok-case_type.rest
    (case_at (with_type c.args.env.now c.args.i.now) c.args.i.now c.args.m c.args.ctor (with_binder (with_variable c.args.site.now)) (hypothesis_name c.args.name ∷ c.args.name ∷ c.args.names.now) c.args.b.now)
    c.in_ok-label.ensures c.in-Ok.ensures
    (c.in-Ok-hypothesis.ensures ∙ ap within_limits (ap (λ u. hypothesis_at (with_type c.args.env.now c.args.i.now) c.args.i.now c.args.m u 0 c.args.a.now) c.in_ok-under.ensures))
    (c.in-Ok-case_type.ensures ∙ ap within_limits rest) c.two_products.ensures

pub recursive_case-returns-in-Err-case_type : goal.recursive_case-returns-in-Err-case_type
recursive_case-returns-in-Err-case_type t c =
    let e = with_type c.args.env.now c.args.i.now in
    let at : c.in_ok-behind.behind ≡ with_binder (with_variable c.args.site.now) = c.in_ok-behind.ensures ∙ ap with_binder c.in_ok-inner.ensures in
    let seen : c.in_ok-within.within ≡ hypothesis_name c.args.name ∷ c.args.name ∷ c.args.names.now =
    c.in_ok-within.ensures ∙ ap (λ ns. c.in_ok-label.label ∷ ns) c.in_ok-seen.ensures ∙ ap (λ l. l ∷ c.args.name ∷ c.args.names.now) c.in_ok-label.ensures in
    let rest : case_at e c.args.i.now c.args.m c.args.ctor c.in_ok-behind.behind c.in_ok-within.within c.args.b.now
    ≡ case_at e c.args.i.now c.args.m c.args.ctor (with_binder (with_variable c.args.site.now)) (hypothesis_name c.args.name ∷ c.args.name ∷ c.args.names.now) c.args.b.now =
    ap (λ q. case_at e c.args.i.now c.args.m c.args.ctor q c.in_ok-within.within c.args.b.now) at
    ∙ ap (λ ns. case_at e c.args.i.now c.args.m c.args.ctor (with_binder (with_variable c.args.site.now)) ns c.args.b.now) seen in
    third_stop c.in-Err-case_type.stop c.args.name (hypothesis_name c.args.name)
    (instantiate (values_of c.args.site.now) c.args.a.now)
    (hypothesis_at (with_type c.args.env.now c.args.i.now) c.args.i.now c.args.m (with_binder c.args.site.now) 0 c.args.a.now)
    (case_at (with_type c.args.env.now c.args.i.now) c.args.i.now c.args.m c.args.ctor (with_binder (with_variable c.args.site.now)) (hypothesis_name c.args.name ∷ c.args.name ∷ c.args.names.now) c.args.b.now)
    (subst (λ x. Gives {A = Tree} (Err c.in-Err-case_type.stop) (within_limits x)) rest c.in-Err-case_type.ensures)

pub recursive_case-returns-in-Err-hypothesis : goal.recursive_case-returns-in-Err-hypothesis
recursive_case-returns-in-Err-hypothesis t c =
    second_stop c.in-Err-hypothesis.stop c.args.name (hypothesis_name c.args.name)
    (instantiate (values_of c.args.site.now) c.args.a.now)
    (hypothesis_at (with_type c.args.env.now c.args.i.now) c.args.i.now c.args.m (with_binder c.args.site.now) 0 c.args.a.now)
    (case_at (with_type c.args.env.now c.args.i.now) c.args.i.now c.args.m c.args.ctor (with_binder (with_variable c.args.site.now)) (hypothesis_name c.args.name ∷ c.args.name ∷ c.args.names.now) c.args.b.now)
    (subst (λ x. Gives {A = Tree} (Err c.in-Err-hypothesis.stop) (within_limits x)) (ap (λ u. hypothesis_at (with_type c.args.env.now c.args.i.now) c.args.i.now c.args.m u 0 c.args.a.now) c.in_ok-under.ensures) c.in-Err-hypothesis.ensures)
