-- What a scan of the bytes finds, which counts how many comments are open.
use Rattle.std.specs.Prelude.{◌==◌, ℕ, suc, zero, ◌+◌, ◌-◌, nat_lt, ◌&&◌, Option, None, Some, List, [], ◌∷◌, if◌then◌else◌}
use Rattle.sentence_split.specs.declared.scan.Mode.{Mode}
use Rattle.sentence_split.specs.declared.scan.Mode.TheVariants.{Item, Quoted, Second}
use Rattle.sentence_split.specs.declared.scan.State.{State}
use Rattle.sentence_split.specs.Items.{opens, closes}
use Rattle.sentence_split.specs.Split.{is_ended}

-- so many comments are open, in this mode
abbrev pub state : ℕ → Mode → State
state depth mode = record { depth = depth; mode = mode }

-- the state after a byte at which an item begins
abbrev pub item_step : ℕ → ℕ → List ℕ → State
item_step zero b rest = if opens b rest then state 1 Second else if b == 34 then state 0 Quoted else state 0 Item
item_step (suc depth) b rest = if opens b rest then state (suc (suc depth)) Second else if closes b rest then state depth Second else if b == 34 then state (suc depth) Quoted else state (suc depth) Item

-- the same, with one rule for every depth
abbrev pub counted_step : ℕ → ℕ → List ℕ → State
counted_step depth b rest =
    if opens b rest then state (depth + 1) Second
    else if nat_lt 0 depth && closes b rest then state (depth - 1) Second
    else if b == 34 then state depth Quoted
    else state depth Item

-- the state after a byte
abbrev pub step : ℕ → Mode → ℕ → List ℕ → State
step depth Item b rest = item_step depth b rest
step depth Quoted b rest = if b == 34 then state depth Item else state depth Quoted
step depth Second b rest = state depth Item

-- this answer, or where there is none that one
abbrev pub or_else : Option (List ℕ) → Option (List ℕ) → Option (List ℕ)
or_else None other = other
or_else (Some rest) other = Some rest

-- scan on until no comment is open, an item begins and the test answers
abbrev pub scan : (List ℕ → Option (List ℕ)) → Mode → ℕ → List ℕ → Option (List ℕ)
scan test Item zero [] = test []
scan test mode depth [] = None
scan test Item zero (b ∷ rest) = or_else (test (b ∷ rest)) (scan test (step zero Item b rest).mode (step zero Item b rest).depth rest)
scan test mode depth (b ∷ rest) = scan test (step depth mode b rest).mode (step depth mode b rest).depth rest

-- what follows a period that ends a sentence
abbrev pub at_period : List ℕ → Option (List ℕ)
at_period [] = None
at_period (b ∷ rest) = if b == 46 && is_ended rest then Some rest else None

-- what follows a sentence that begins here and ends in a period
abbrev pub sentence_end : List ℕ → Option (List ℕ)
sentence_end text = scan at_period Item 0 text

-- what follows a comment whose first byte stands before these
abbrev pub comment_end : List ℕ → Option (List ℕ)
comment_end text = scan Some Second 1 text
