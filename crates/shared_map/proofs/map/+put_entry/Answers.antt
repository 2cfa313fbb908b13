use Rattle.std.proofs.Common.{◌≡◌, Result, Ok, Err, IfOk, ◌∷◌, ◌++◌, ◌∙◌, rules}
use Rattle.shared_map.specs.Entries.{put}
use Rattle.shared_map.proofs.EntriesLaws.{put-left, put-here, put-right}
use Rattle.shared_map.proofs.map.+put_entry.Goals as goal

-- what an answer is, by an equation of its value
ok_is : {A E : Type 0} (r : Result A E) (x y : A) → IfOk r (λ m. m ≡ x) → x ≡ y → IfOk r (λ m. m ≡ y)
ok_is (Ok m) x y h e = h ∙ e
ok_is (Err e) x y h same = tt

pub returns-in_ok-share-in-Less-clause-put : goal.returns-in_ok-share-in-Less-clause-put
returns-in_ok-share-in-Less-clause-put g t c =
    let branch = c.in-Fork.branch.value in
    let all : c.args.entries.now ≡ branch.left ++ (branch.item.value ∷ branch.right) = search rules in
    let side : c.in_ok-left-in-Less.left ≡ put g.K.Ord.cmp branch.left c.args.entry.value = search rules in
    let item : c.in_ok-clone-in-Less.field-0.value ≡ branch.item.value = search rules in
    let other : c.in_ok-share-in-Less.field-0 ≡ branch.right = search rules in
    let law = put-left g.K.Ord.cmp c.args.entry.value branch.left branch.item.value branch.right (search rules) in
    ok_is c.balanced.result _ _ c.balanced.ensures (cc (all, law, side, item, other))

pub returns-in_ok-share-in-Equal-2-clause-put : goal.returns-in_ok-share-in-Equal-2-clause-put
returns-in_ok-share-in-Equal-2-clause-put g t c =
    let branch = c.in-Fork.branch.value in
    let all : c.args.entries.now ≡ branch.left ++ (branch.item.value ∷ branch.right) = search rules in
    let left : c.in_ok-share-in-Equal.field-0 ≡ branch.left = search rules in
    let right : c.in_ok-share-in-Equal-2.field-0 ≡ branch.right = search rules in
    let law = put-here g.K.Ord.cmp g.met.K.Ord.total c.args.entry.value branch.left branch.item.value branch.right (search rules) (search rules) in
    ok_is c.fork-in-Equal-2.result _ _ c.fork-in-Equal-2.ensures (cc (all, law, left, right))

pub returns-in_ok-clone-in-Greater-clause-put : goal.returns-in_ok-clone-in-Greater-clause-put
returns-in_ok-clone-in-Greater-clause-put g t c =
    let branch = c.in-Fork.branch.value in
    let all : c.args.entries.now ≡ branch.left ++ (branch.item.value ∷ branch.right) = search rules in
    let side : c.in_ok-right-in-Greater.right ≡ put g.K.Ord.cmp branch.right c.args.entry.value = search rules in
    let item : c.in_ok-clone-in-Greater.field-0.value ≡ branch.item.value = search rules in
    let other : c.in_ok-share-in-Greater.field-0 ≡ branch.left = search rules in
    let law = put-right g.K.Ord.cmp g.met.K.Ord.total c.args.entry.value branch.left branch.item.value branch.right (search rules) (search rules) in
    ok_is c.balanced-in-Greater-2.result _ _ c.balanced-in-Greater-2.ensures (cc (all, law, side, item, other))
