-- A term is written as its head with its arguments.
use Rattle.std.proofs.Common.{◌≡◌, ℕ, ◌+◌, ◌^◌, nat_le, List, [], ◌∷◌, ◌++◌, true, false, ◌&&◌, refl, sym, ◌∙◌, ap, arith}
use Rattle.std.proofs.lemmas.Bool.{le-leb}
use Rattle.core_term.specs.Tree.{Tree, App, IsTerm, is_small, size_of, depth_of}
use Rattle.cic_rules.specs.declared.env.Slot.{Slot}
use Rattle.term_spine.specs.declared.spines.Spine.{Spine}
use Rattle.term_spine.specs.Spines.{IsSpineOf}
use Rattle.term_spine.specs.Spine.{apply_all, arguments_size}
use Rattle.term_print.specs.Pieces.{Piece}
use Rattle.term_print.specs.Named.{show, show_all}

shown_applied : (env : List Slot) (h : Tree) (args : List Tree) (more : List Piece) (names : List (List ℕ)) →
    show env (apply_all h args) more names ≡ show env h (show_all env args names ++ more) names
unfolding show
shown_applied env h [] more names = refl
shown_applied env h (a ∷ more_args) more names = shown_applied env (App h a) more_args more names

nothing_more : (ps : List Piece) → ps ++ [] ≡ ps
nothing_more [] = refl
nothing_more (p ∷ ps) = ap (λ qs. p ∷ qs) (nothing_more ps)

pub shown_spine : (env : List Slot) (t h : Tree) (args : List Tree) (names : List (List ℕ)) → apply_all h args ≡ t →
    show env t [] names ≡ show env h (show_all env args names) names
shown_spine env t h args names e =
    ap (λ u. show env u [] names) (sym e) ∙ shown_applied env h args [] names ∙ ap (λ ps. show env h ps names) (nothing_more (show_all env args names))

size_applied : (h : Tree) (args : List Tree) → size_of (apply_all h args) ≡ size_of h + arguments_size args
size_applied h [] = omega arith
size_applied h (a ∷ more_args) =
    let e : size_of (apply_all (App h a) more_args) ≡ (1 + size_of h + size_of a) + arguments_size more_args = size_applied (App h a) more_args in
    omega (arith, e)

size_spine : (t h : Tree) (args : List Tree) → apply_all h args ≡ t → size_of h + arguments_size args ≡ size_of t
size_spine t h args e = sym (size_applied h args) ∙ ap size_of e

pub term_small : (t : Tree) → IsTerm t → is_small t ≡ true
term_small t h =
    ap (λ b. b && nat_le (depth_of t) 1000) (le-leb (size_of t) (2 ^ 20) h.small) ∙ le-leb (depth_of t) 1000 h.shallow

pub not_too_large : (t : Tree) → IsTerm t → is_small t ≡ false → ⊥
not_too_large t h e = let k : true ≡ false = sym (term_small t h) ∙ e in cc

pub size_of_spine : (t : Tree) (s : Spine) → IsSpineOf s t → size_of s.head + arguments_size s.args ≡ size_of t
size_of_spine t s is = size_spine t s.head s.args is.whole
