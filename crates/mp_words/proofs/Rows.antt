-- A row's word and its fields.
use Rattle.std.proofs.Common.{◌≡◌, ℕ, zero, suc, ◌+◌, ◌*◌, ◌/◌, ◌%◌, ◌^◌, ◌<◌, ◌≤◌, ◌==◌, ◌≢◌, subst, Bool, true, false, Option, Some, None, IfSome, refl, sym, ap, ◌∙◌, arith, if◌then◌else◌}
use Rattle.std.proofs.lemmas.Bool.Decides.{nat_tests}
use Rattle.mp_words.specs.declared.row.Row.{Row}
use Rattle.mp_words.specs.declared.row.CState.{CState}
use Rattle.mp_words.specs.declared.row.CState.TheVariants.{New, Live, Resetting, Connecting, Deleting, DeletingNoio, Dead}
use Rattle.mp_words.specs.Effect.{free_row}
use Rattle.mp_words.specs.Facts.{IsRow}
use Rattle.mp_words.specs.WordBits.{flag_bit}
use Rattle.mp_words.specs.RowWord.{cstate_code, cstate_of, row_word, row_in, row_of_word, is_no_row, FitsRowWord}

-- the sum of nine fields
abbrev pub nine : ℕ → ℕ → ℕ → ℕ → ℕ → ℕ → ℕ → ℕ → ℕ → ℕ
nine v c s a p r m k n =
    v + c * 2 ^ 32 + s * 2 ^ 38 + a * 2 ^ 41 + p * 2 ^ 45 + r * 2 ^ 46 + m * 2 ^ 47 + k * 2 ^ 48 + n * 2 ^ 49

-- each field of the sum
record Fields (v c s a p r m k n w : ℕ) : Type 0 where
  pub version : w % 2 ^ 32 ≡ v
  pub ctrl : w / 2 ^ 32 % 2 ^ 6 ≡ c
  pub cstate : w / 2 ^ 38 % 2 ^ 3 ≡ s
  pub state : w / 2 ^ 41 % 2 ^ 4 ≡ a
  pub pending : w / 2 ^ 45 % 2 ≡ p
  pub ready : w / 2 ^ 46 % 2 ≡ r
  pub armed : w / 2 ^ 47 % 2 ≡ m
  pub marked : w / 2 ^ 48 % 2 ≡ k
  pub ana : w / 2 ^ 49 % 2 ≡ n
  pub top : w / 2 ^ 50 ≡ 0

fields : (v c s a p r m k n : ℕ) → v < 2 ^ 32 → c < 64 → s < 7 → a < 16 → p < 2 → r < 2 → m < 2 → k < 2 → n < 2 → Fields v c s a p r m k n (nine v c s a p r m k n)
fields v c s a p r m k n hv hc hs ha hp hr hm hk hn = record {
  version = omega arith;
  ctrl = omega arith;
  cstate = omega arith;
  state = omega arith;
  pending = omega arith;
  ready = omega arith;
  armed = omega arith;
  marked = omega arith;
  ana = omega arith;
  top = omega arith;
}

-- the sum of the fields
pub rebuilt : (w : ℕ) → w / 2 ^ 50 ≡ 0 → nine (w % 2 ^ 32) (w / 2 ^ 32 % 2 ^ 6) (w / 2 ^ 38 % 2 ^ 3) (w / 2 ^ 41 % 2 ^ 4) (w / 2 ^ 45 % 2) (w / 2 ^ 46 % 2) (w / 2 ^ 47 % 2) (w / 2 ^ 48 % 2) (w / 2 ^ 49 % 2) ≡ w
rebuilt w top = omega arith

flag_below : (b : Bool) → flag_bit b < 2
flag_below false = omega arith
flag_below true = omega arith

flag_is : (b : Bool) → (flag_bit b == 1) ≡ b
flag_is false = refl
flag_is true = refl

code_below : (s : CState) → cstate_code s < 7
code_below New = omega arith
code_below Live = omega arith
code_below Resetting = omega arith
code_below Connecting = omega arith
code_below Deleting = omega arith
code_below DeletingNoio = omega arith
code_below Dead = omega arith

code_is : (s : CState) → cstate_of (cstate_code s) ≡ s
code_is New = refl
code_is Live = refl
code_is Resetting = refl
code_is Connecting = refl
code_is Deleting = refl
code_is DeletingNoio = refl
code_is Dead = refl

flag_of : (n : ℕ) → n < 2 → flag_bit (n == 1) ≡ n
flag_of zero l = refl
flag_of (suc zero) l = refl
flag_of (suc (suc n)) l = absurd (omega arith)

bit_flag : (n : ℕ) → flag_bit (n % 2 == 1) ≡ n % 2
bit_flag n = flag_of (n % 2) (omega arith)

code_of : (n : ℕ) → n < 7 → cstate_code (cstate_of n) ≡ n
code_of zero l = refl
code_of (suc zero) l = refl
code_of (suc (suc zero)) l = refl
code_of (suc (suc (suc zero))) l = refl
code_of (suc (suc (suc (suc zero)))) l = refl
code_of (suc (suc (suc (suc (suc zero))))) l = refl
code_of (suc (suc (suc (suc (suc (suc zero)))))) l = refl
code_of (suc (suc (suc (suc (suc (suc (suc n))))))) l = absurd (omega arith)

-- a word that is a row's has nothing above bit 49, and no controller state 7
record IsWord (w : ℕ) : Type 0 where
  pub top : w / 2 ^ 50 ≡ 0
  pub cstate : w / 2 ^ 38 % 2 ^ 3 < 7

is_word : (w : ℕ) → is_no_row w ≡ false → IsWord w
is_word w e = record { top = grind (arith, nat_tests); cstate = grind (arith, nat_tests) }

respelled : (w : ℕ) → IsWord w → row_word (row_in w) ≡ w
respelled w i =
    rw (code_of (w / 2 ^ 38 % 2 ^ 3) i.cstate) (
    rw (bit_flag (w / 2 ^ 45)) (
    rw (bit_flag (w / 2 ^ 46)) (
    rw (bit_flag (w / 2 ^ 47)) (
    rw (bit_flag (w / 2 ^ 48)) (
    rw (bit_flag (w / 2 ^ 49)) (
    rebuilt w i.top))))))

abbrev row_or : Row → Option Row → Row
row_or d None = d
row_or d (Some row) = row

at_word : (w : ℕ) (row : Row) (b : Bool) → is_no_row w ≡ b → (if b then None else Some (row_in w)) ≡ Some row → row_word row ≡ w
at_word w row true e h = absurd (cc)
at_word w row false e h = ap row_word (sym (ap (row_or row) h)) ∙ respelled w (is_word w e)

pub packs : (w : ℕ) (row : Row) → row_of_word w ≡ Some row → row_word row ≡ w
packs w row h = at_word w row (is_no_row w) refl h

-- the fields of a row's word
of_row : (row : Row) → row.version < 2 ^ 32 → row.ctrl < 64 → row.state ≤ 15 → Fields row.version row.ctrl (cstate_code row.cstate) row.state (flag_bit row.pending) (flag_bit row.ready) (flag_bit row.armed) (flag_bit row.marked) (flag_bit row.ana) (row_word row)
of_row row hv hc ha =
    fields row.version row.ctrl (cstate_code row.cstate) row.state (flag_bit row.pending) (flag_bit row.ready) (flag_bit row.armed) (flag_bit row.marked) (flag_bit row.ana)
    hv hc (code_below row.cstate) (omega arith) (flag_below row.pending) (flag_below row.ready) (flag_below row.armed) (flag_below row.marked) (flag_below row.ana)

spelled : (row : Row) (w : ℕ) → Fields row.version row.ctrl (cstate_code row.cstate) row.state (flag_bit row.pending) (flag_bit row.ready) (flag_bit row.armed) (flag_bit row.marked) (flag_bit row.ana) w → row_in w ≡ row
spelled row w f =
    rw f.version (
    rw f.ctrl (
    rw f.cstate (
    rw f.state (
    rw f.pending (
    rw f.ready (
    rw f.armed (
    rw f.marked (
    rw f.ana (
    rw (code_is row.cstate) (
    rw (flag_is row.pending) (
    rw (flag_is row.ready) (
    rw (flag_is row.armed) (
    rw (flag_is row.marked) (
    rw (flag_is row.ana) (
    refl)))))))))))))))

-- a word with no row has a sign of it
not_given : (w : ℕ) (b : Bool) → (w / 2 ^ 41 % 2 ^ 4 == 0) ≡ b → w / 2 ^ 50 ≡ 0 → w / 2 ^ 38 % 2 ^ 3 < 7 → (b ≡ true → w / 2 ^ 32 ≡ 0) → is_no_row w ≡ false
not_given w true e top code low = grind (arith, nat_tests)
not_given w false e top code low = grind (arith, nat_tests)

low_of : (row : Row) → IsRow row → row.version < 2 ^ 32 → row.state ≡ 0 → row_word row / 2 ^ 32 ≡ 0
low_of row is hv e = rw (is.free e) (omega arith)

is_zero : (n : ℕ) → (n == 0) ≡ true → n ≡ 0
is_zero n e = grind (arith, nat_tests)

has_row : (row : Row) → IsRow row → row.version < 2 ^ 32 → Fields row.version row.ctrl (cstate_code row.cstate) row.state (flag_bit row.pending) (flag_bit row.ready) (flag_bit row.armed) (flag_bit row.marked) (flag_bit row.ana) (row_word row) → is_no_row (row_word row) ≡ false
has_row row is hv f =
    not_given (row_word row) (row_word row / 2 ^ 41 % 2 ^ 4 == 0) refl f.top (rw f.cstate (code_below row.cstate)) (λ e. low_of row is hv (sym f.state ∙ is_zero (row_word row / 2 ^ 41 % 2 ^ 4) e))

with_word : (row : Row) (w : ℕ) → is_no_row w ≡ false → row_in w ≡ row → row_of_word w ≡ Some row
with_word row w e r = rw e (ap Some r)

pub unpacks : (row : Row) → IsRow row → row.version < 2 ^ 32 → row.ctrl < 64 → row_of_word (row_word row) ≡ Some row
unpacks row is hv hc =
    let f = of_row row hv hc is.state in
    with_word row (row_word row) (has_row row is hv f) (spelled row (row_word row) f)

pub row_unpacks : (row : Row) → FitsRowWord row → row_of_word (row_word row) ≡ Some row
row_unpacks row fits = unpacks row fits.stored fits.version_fits fits.ctrl_fits

-- ---- the row that a word's bits spell

low_word : (w : ℕ) → is_no_row w ≡ false → w / 2 ^ 41 % 2 ^ 4 ≡ 0 → w / 2 ^ 32 ≡ 0
low_word w e z = grind (arith, nat_tests)

free_in : (w : ℕ) → w / 2 ^ 32 ≡ 0 → row_in w ≡ free_row (w % 2 ^ 32)
free_in w z =
    let cstate : w / 2 ^ 38 ≡ 0 = omega arith in
    let state : w / 2 ^ 41 ≡ 0 = omega arith in
    let pending : w / 2 ^ 45 ≡ 0 = omega arith in
    let ready : w / 2 ^ 46 ≡ 0 = omega arith in
    let armed : w / 2 ^ 47 ≡ 0 = omega arith in
    let marked : w / 2 ^ 48 ≡ 0 = omega arith in
    let ana : w / 2 ^ 49 ≡ 0 = omega arith in
    rw (z, cstate, state, pending, ready, armed, marked, ana) refl

stored_in : (w : ℕ) → is_no_row w ≡ false → IsRow (row_in w)
stored_in w e = record { state = omega arith; free = λ z. free_in w (low_word w e z) }

fits_in : (w : ℕ) → is_no_row w ≡ false → FitsRowWord (row_in w)
fits_in w e = record { stored = stored_in w e; version_fits = omega arith; ctrl_fits = omega arith }

-- a row of a word is what its bits spell, and nothing speaks against it
record Spells (w : ℕ) (row : Row) : Type 0 where
  pub is : row_in w ≡ row
  pub given : is_no_row w ≡ false

spells : (w : ℕ) (row : Row) → row_of_word w ≡ Some row → Spells w row
spells w row h = here (is_no_row w) refl h
  where
    here : (b : Bool) → is_no_row w ≡ b → (if b then None else Some (row_in w)) ≡ Some row → Spells w row
    here true e h = absurd (cc)
    here false e h = record { is = ap (row_or row) h; given = e }

pub row_fits : (w : ℕ) (row : Row) → row_of_word w ≡ Some row → FitsRowWord row
row_fits w row h = let s = spells w row h in subst FitsRowWord s.is (fits_in w s.given)

pub no_row : (w : ℕ) → ((row : Row) → FitsRowWord row → row_word row ≢ w) → row_of_word w ≡ None
no_row w other = here (is_no_row w) refl
  where
    here : (b : Bool) → is_no_row w ≡ b → (if b then None else Some (row_in w)) ≡ None
    here true e = refl
    here false e = absurd (other (row_in w) (fits_in w e) (respelled w (is_word w e)))

-- what holds of each row of a word
pub if_row : (P : Row → Type 0) (w : ℕ) (result : Option Row) → result ≡ row_of_word w → ((row : Row) → row_of_word w ≡ Some row → P row) → IfSome result P
if_row P w None is all = tt
if_row P w (Some row) is all = all row (sym is)
