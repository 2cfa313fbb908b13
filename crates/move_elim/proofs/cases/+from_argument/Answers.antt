use Rattle.std.proofs.Common.{rules}
use Rattle.move_elim.proofs.CaseLaws.{behind_stop, same_case}
use Rattle.move_elim.proofs.WalkLaws.{built_in, domain_in, inner_walk, says_scoped, walk_behind}
use Rattle.move_elim.proofs.cases.+from_argument.Goals as goal

pub under_argument-past_argument-requires-clause-ty : goal.under_argument-past_argument-requires-clause-ty
under_argument-past_argument-requires-clause-ty t c =
    domain_in c.args.env.now c.args.c.now c.args.w.now c.args.name.now c.args.domain.now c.args.codomain.now c.in_ok-ty.ty c.requires.walk c.in_ok-ty.ensures

pub behind_hypothesis-case_from-requires : goal.behind_hypothesis-case_from-requires
behind_hypothesis-case_from-requires t c = (
  search rules,
  (
    inner_walk c.args.env.now c.args.c.now c.args.w.now c.args.inner.now c.args.own.now c.args.name.now c.args.domain.now c.args.codomain.now c.requires.walk
        c.requires.inner,
    c.requires.few,
  ),
)

pub behind_hypothesis-past_hypothesis-requires-clause-judged : goal.behind_hypothesis-past_hypothesis-requires-clause-judged
behind_hypothesis-past_hypothesis-requires-clause-judged t c =
    let walk = inner_walk c.args.env.now c.args.c.now c.args.w.now c.args.inner.now c.args.own.now c.args.name.now c.args.domain.now c.args.codomain.now
    c.requires.walk c.requires.inner in
    walk.judged

pub behind_hypothesis-past_hypothesis-requires-clause-built : goal.behind_hypothesis-past_hypothesis-requires-clause-built
behind_hypothesis-past_hypothesis-requires-clause-built t c =
    built_in c.args.env.now c.args.c.now c.args.inner.now c.args.codomain.now
    (inner_walk c.args.env.now c.args.c.now c.args.w.now c.args.inner.now c.args.own.now c.args.name.now c.args.domain.now c.args.codomain.now c.requires.walk
    c.requires.inner)

pub behind_hypothesis-case_from-requires-2 : goal.behind_hypothesis-case_from-requires-2
behind_hypothesis-case_from-requires-2 t c = (
  search rules,
  (
    walk_behind c.args.env.now c.args.c.now c.args.inner.now c.in_ok-last.last c.in_ok-own.own c.args.codomain.now c.in_ok-ty.ty
        (inner_walk c.args.env.now c.args.c.now c.args.w.now c.args.inner.now c.args.own.now c.args.name.now c.args.domain.now c.args.codomain.now c.requires.walk
        c.requires.inner)
        (says_scoped c.args.env.now c.args.c.now c.args.w.now c.args.inner.now c.args.own.now c.args.name.now c.args.domain.now c.args.codomain.now c.in_ok-ty.ty
        c.requires.walk c.requires.inner c.in_ok-ty.ensures)
        c.in_ok-last.ensures,
    c.requires.few,
  ),
)

pub behind_hypothesis-returns-in-Err : goal.behind_hypothesis-returns-in-Err
behind_hypothesis-returns-in-Err t c =
    behind_stop c.args.induction c.args.env.now c.args.c.now c.args.recursive c.args.w.now c.args.inner.now c.in_ok-last.last c.args.given.now c.args.own.now
    c.in_ok-own.own c.args.domain.now c.in_ok-ty.ty _ c.in-Err.stop (search rules) c.in_ok-ty.ensures (search rules) c.in_ok-last.ensures (search rules)

pub case_from-returns-in-Prod : goal.case_from-returns-in-Prod
case_from-returns-in-Prod t c =
    same_case c.args.induction c.args.env.now c.args.c.now c.args.w.now c.args.given.now c.args.flags.now c.args.t.now c.in-Some.recursive.now
    c.in-Some.later.now c.in-Prod.name c.in-Prod.domain c.in-Prod.codomain c.under_argument.result (search rules) (search rules) c.under_argument.ensures
