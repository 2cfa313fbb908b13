use Rattle.std.proofs.Common.{◌≡◌, ℕ, [], refl, ap, sym, ◌∙◌, List, ◌∷◌}
use Rattle.std.proofs.lemmas.Result.{err_from_is_err_and}
use Rattle.coq_syntax.specs.declared.command.Constructor.{Constructor}
use Rattle.coq_syntax.specs.Forms.{constructor_of, constructors_of}
use Rattle.vernac_parser.specs.declared.sign.Sign.TheVariants.{Bar, Identifier}
use Rattle.vernac_parser.specs.Signs.{is_sign}
use Rattle.vernac_parser.specs.Parser.{place_of, word_of}
use Rattle.vernac_parser.specs.Reads.{counted}
use Rattle.vernac_parser.specs.Parse.{standard}
use Rattle.vernac_parser.specs.ParseCommand.{barred, constructor, with_constructor}
use Rattle.vernac_parser.specs.Views.{within}
use Rattle.vernac_parser.proofs.Taking.{Takes, Limit}
use Rattle.vernac_parser.proofs.Local.{local_bind, local_taken, local_pure}
use Rattle.vernac_parser.proofs.LocalRules.{only, takes_sign, local_groups, local_annotation, local_nested, identifier_nested}
use Rattle.vernac_parser.proofs.Turns.{onto, more, done, failed, smaller}
use Rattle.vernac_parser.proofs.grammar.Grammar.constructors.Goals as goal

takes : (limit : ℕ) → Takes (λ s. is_sign s Bar) (barred standard (within limit))
unfolding barred constructor
takes limit =
    only Bar _ (takes_sign Limit place_of Bar _ refl (λ bar. local_bind _ _ (local_taken word_of Identifier) (λ name.
    local_bind _ _ (local_groups standard (within limit) (local_nested standard limit) (identifier_nested standard limit)) (λ gs.
    local_bind _ _ (local_annotation standard (within limit) (local_nested standard limit) (identifier_nested standard limit)) (λ a. local_pure _)))))

all_constructors : (cs : List Constructor) → onto (λ d. with_constructor (constructor_of d)) cs [] ≡ constructors_of cs
all_constructors [] = refl
all_constructors (c ∷ cs) = ap (with_constructor (constructor_of c)) (all_constructors cs)

pub returns-in_err-barred : goal.returns-in_err-barred
returns-in_err-barred g c =
    let p = err_from_is_err_and c.from_residual-in_err-barred.result c.from_residual-in_err-barred.ensures.1 in
    rw (p.1, p.2) (λ apart.
    ap counted (sym c.loop-constructors.invariant)
    ∙ failed constructor_of (λ s. is_sign s Bar) (barred standard (within c.args.self.now.limit)) with_constructor [] c.loop-constructors.constructors.items c.loop-constructors.tokens _ (sym c.sees.ensures ∙ c.loop-constructors-test.true) (c.in_err-barred.ensures apart))

pub loop-constructors-smaller : goal.loop-constructors-smaller
loop-constructors-smaller g c =
    smaller constructor_of (λ s. is_sign s Bar) (barred standard (within c.args.self.now.limit)) with_constructor [] (takes _) c.in_ok-barred.field-0 c.loop-constructors.tokens _ (sym c.sees.ensures ∙ c.loop-constructors-test.true) c.in_ok-barred.ensures

pub loop-constructors-preserved : goal.loop-constructors-preserved
loop-constructors-preserved g c =
    rw c.in_ok-push-2.ensures.items (more constructor_of (λ s. is_sign s Bar) (barred standard (within c.args.self.now.limit)) with_constructor [] (takes _) c.loop-constructors.constructors.items _ _ _ (sym c.sees.ensures ∙ c.loop-constructors-test.true) c.in_ok-barred.ensures ∙ c.loop-constructors.invariant)

pub returns : goal.returns
returns g c =
    sym c.loop-constructors.invariant
    ∙ done constructor_of (λ s. is_sign s Bar) (barred standard (within c.args.self.now.limit)) with_constructor [] c.loop-constructors.constructors.items c.loop-constructors.tokens (sym c.sees.ensures ∙ c.loop-constructors-test.false)
    ∙ rw (all_constructors c.loop-constructors.constructors.items)
