-- What the words of one line are.
use Rattle.std.specs.Prelude.{ℕ, Bool, false, ◌==◌, if◌then◌else◌, List, [], ◌∷◌, codes}
use Rattle.std.specs.Str.{bytes_eq}
use Rattle.mp_script.specs.Splitting.{words_of}
use Rattle.mp_script.specs.declared.shapes.LineShape.{LineShape}
use Rattle.mp_script.specs.declared.shapes.LineShape.TheVariants as code

-- The first word is one of the forms', with as many words behind it as the form has.
pub data Shape : Type 0 where
  skipped : Shape
  unknown : Shape
  answer : List ℕ → List ℕ → List ℕ → Shape
  lane : Shape
  keeper : Shape
  submit : List ℕ → List ℕ → Shape
  finish : List ℕ → Shape
  requeue : Shape
  log : List ℕ → List ℕ → Shape
  ctrl : List ℕ → List ℕ → Shape
  anatt : List ℕ → Shape
  add : List ℕ → List ℕ → Shape
  remove : List ℕ → Shape
  reap : Shape
  policy : List ℕ → Shape

-- the word is this text
abbrev pub is_word : List ℕ → List ℕ → Bool
is_word = bytes_eq

-- the line of a first word without a word behind it
unfoldable pub shape_0 : List ℕ → Shape
shape_0 w =
    if is_word w (codes "lane") then lane
    else if is_word w (codes "keeper") then keeper
    else if is_word w (codes "requeue") then requeue
    else if is_word w (codes "reap") then reap
    else unknown

-- the line of a first word with one word behind it
unfoldable pub shape_1 : List ℕ → List ℕ → Shape
shape_1 w a =
    if is_word w (codes "finish") then finish a
    else if is_word w (codes "anatt") then anatt a
    else if is_word w (codes "remove") then remove a
    else if is_word w (codes "policy") then policy a
    else unknown

-- the line of a first word with two words behind it
unfoldable pub shape_2 : List ℕ → List ℕ → List ℕ → Shape
shape_2 w a b =
    if is_word w (codes "submit") then submit a b
    else if is_word w (codes "log") then log a b
    else if is_word w (codes "ctrl") then ctrl a b
    else if is_word w (codes "add") then add a b
    else unknown

-- the line of a first word with three words behind it
unfoldable pub shape_3 : List ℕ → List ℕ → List ℕ → List ℕ → Shape
shape_3 w a b c = if is_word w (codes "answer") then answer a b c else unknown

-- the word begins with #
abbrev pub is_comment : List ℕ → Bool
is_comment [] = false
is_comment (b ∷ bs) = b == 35

-- the line of this first word and those behind it
abbrev pub shape_by : List ℕ → List (List ℕ) → Shape
shape_by w [] = shape_0 w
shape_by w (a ∷ []) = shape_1 w a
shape_by w (a ∷ b ∷ []) = shape_2 w a b
shape_by w (a ∷ b ∷ c ∷ []) = shape_3 w a b c
shape_by w (a ∷ b ∷ c ∷ d ∷ more) = unknown

-- a line without words, or whose first word begins with #, is skipped
abbrev pub shape_of_words : List (List ℕ) → Shape
shape_of_words [] = skipped
shape_of_words (w ∷ ws) = if is_comment w then skipped else shape_by w ws

-- what the words of a line are
unfoldable pub shape_of : List ℕ → Shape
shape_of text = shape_of_words (words_of text)

-- the code's line, with what its references point to
abbrev pub shape : LineShape → Shape
shape code.Skipped = skipped
shape code.Unknown = unknown
shape (code.Answer r a s) = answer r.now a.now s.now
shape code.Lane = lane
shape code.Keeper = keeper
shape (code.Submit r n) = submit r.now n.now
shape (code.Finish r) = finish r.now
shape code.Requeue = requeue
shape (code.Log c k) = log c.now k.now
shape (code.Ctrl c s) = ctrl c.now s.now
shape (code.Anatt c) = anatt c.now
shape (code.Add c k) = add c.now k.now
shape (code.Remove c) = remove c.now
shape code.Reap = reap
shape (code.Policy p) = policy p.now
