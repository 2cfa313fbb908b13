use Rattle.std.proofs.Common.{◌≡◌, ℕ, [], refl, ap, sym, ◌∙◌, List, ◌∷◌}
use Rattle.std.proofs.lemmas.Result.{err_from_is_err_and}
use Rattle.coq_syntax.specs.declared.tree.Group.{Group}
use Rattle.coq_syntax.specs.Trees.{NoGroup}
use Rattle.coq_syntax.specs.Nodes.{groups_of}
use Rattle.vernac_parser.specs.declared.sign.Sign.TheVariants.{Open}
use Rattle.vernac_parser.specs.Signs.{is_sign}
use Rattle.vernac_parser.specs.Reads.{counted}
use Rattle.vernac_parser.specs.Parse.{standard, group, with_group}
use Rattle.vernac_parser.specs.Views.{within, group_of}
use Rattle.vernac_parser.proofs.Taking.{Takes}
use Rattle.vernac_parser.proofs.LocalRules.{takes_group, local_nested, identifier_nested}
use Rattle.vernac_parser.proofs.Turns.{onto, more, done, failed, smaller}
use Rattle.vernac_parser.proofs.grammar.Grammar.groups.Goals as goal

takes : (limit : ℕ) → Takes (λ s. is_sign s Open) (group standard (within limit))
takes limit = takes_group standard (within limit) (local_nested standard limit) (identifier_nested standard limit)

all_groups : (gs : List Group) → onto (λ d. with_group (group_of d)) gs NoGroup ≡ groups_of gs
all_groups [] = refl
all_groups (g ∷ gs) = ap (with_group (group_of g)) (all_groups gs)

pub returns-in_err-group : goal.returns-in_err-group
returns-in_err-group g c =
    let p = err_from_is_err_and c.from_residual.result c.from_residual.ensures.1 in
    rw (p.1, p.2) (λ apart.
    ap counted (sym c.loop-groups.invariant)
    ∙ failed group_of (λ s. is_sign s Open) (group standard (within c.args.self.now.limit)) with_group NoGroup c.loop-groups.groups.items c.loop-groups.tokens _ (sym c.sees.ensures ∙ c.loop-groups-test.true) (c.in_err-group.ensures apart))

pub loop-groups-smaller : goal.loop-groups-smaller
loop-groups-smaller g c =
    smaller group_of (λ s. is_sign s Open) (group standard (within c.args.self.now.limit)) with_group NoGroup (takes _) c.in_ok-group.field-0 c.loop-groups.tokens _ (sym c.sees.ensures ∙ c.loop-groups-test.true) c.in_ok-group.ensures

pub loop-groups-preserved : goal.loop-groups-preserved
loop-groups-preserved g c =
    rw c.in_ok-push.ensures.items (more group_of (λ s. is_sign s Open) (group standard (within c.args.self.now.limit)) with_group NoGroup (takes _) c.loop-groups.groups.items _ _ _ (sym c.sees.ensures ∙ c.loop-groups-test.true) c.in_ok-group.ensures ∙ c.loop-groups.invariant)

pub returns : goal.returns
returns g c =
    sym c.loop-groups.invariant
    ∙ done group_of (λ s. is_sign s Open) (group standard (within c.args.self.now.limit)) with_group NoGroup c.loop-groups.groups.items c.loop-groups.tokens (sym c.sees.ensures ∙ c.loop-groups-test.false)
    ∙ rw (all_groups c.loop-groups.groups.items)
