-- Numbers that are written are read.
use Rattle.std.proofs.Common.{inl, inr, ◌≡◌, ℕ, ◌+◌, ◌*◌, ◌-◌, ◌/◌, ◌%◌, ◌^◌, ◌<◌, ◌≤◌, true, List, [], ◌∷◌, length, Some, refl, sym, ap, ◌∙◌, arith}
use Rattle.std.specs.Prelude.{nat_le}
use Rattle.std.specs.List.{list_all}
use Rattle.std.specs.Char.{digit_value}
use Rattle.std.specs.Str.Parse.{AllDigits, digits_value, digits_value_after}
use Rattle.std.specs.Fmt.{decimal}
use Rattle.std.proofs.lemmas.Fmt.{decimal_is_IsNumeral_wide, length-decimal-le_wide}
use Rattle.std.proofs.lemmas.Bool.{cases_Bool}
use Rattle.std.proofs.lemmas.Str.{digit_value_digit}
use Rattle.std.proofs.lemmas.Str.Parse.{digit_from_value}
use Rattle.std.proofs.lemmas.Bool.Decides.{nat_tests}
use Rattle.mp_script.specs.Splitting.{is_digit, digits_from, number_of}
use Rattle.mp_words.specs.Status.{hex_digit, status_word}
use Rattle.mp_script.proofs.WrittenWords.{is_dark, is_plain}

digit_is : (b : ℕ) → digit_value b < 10 → (is_digit b ≡ true) × (digit_value b ≡ b - 48)
digit_is b lt =
    let range = digit_from_value b lt in
    let value = digit_value_digit b range in
    (grind (arith, nat_tests), omega (arith, value))

digits_read : (ds : List ℕ) (n : ℕ) → AllDigits 10 ds → digits_from n ds ≡ Some (digits_value_after 10 n ds)
digits_read [] n h = refl
digits_read (d ∷ ds) n h =
    let e = digit_is d h.0 in
    let same : n * 10 + (d - 48) ≡ n * 10 + digit_value d = ap (λ k. n * 10 + k) (sym e.1) in
    rw e.0 (ap (λ k. digits_from k ds) same ∙ digits_read ds (n * 10 + digit_value d) h.1)

number_digits : (ds : List ℕ) → 0 < length ds → length ds ≤ 10 → AllDigits 10 ds → number_of ds ≡ Some (digits_value 10 ds)
number_digits [] some most h = absurd (omega arith)
number_digits (d ∷ ds) some most h =
    let few : nat_le (length ds) 9 ≡ true = grind (arith, nat_tests) in
    rw few (digits_read (d ∷ ds) 0 h)

pub number_decimal : (n : ℕ) → n < 4294967296 → number_of (decimal n) ≡ Some n
number_decimal n lt =
    let wide : n < 10 ^ 64 = omega (arith, lt) in
    let few : n < 10 ^ 10 = omega (arith, lt) in
    let is = decimal_is_IsNumeral_wide n wide in
    number_digits (decimal n) is.0.0 (length-decimal-le_wide 10 n (omega arith) few wide) is.0.1 ∙ ap Some is.1

-- ---- digits are plain

dark_digits : (ds : List ℕ) → AllDigits 10 ds → list_all is_dark ds ≡ true
dark_digits [] h = refl
dark_digits (d ∷ ds) h =
    let range = digit_from_value d h.0 in
    let here : is_dark d ≡ true = grind (arith, nat_tests) in
    rw (here, dark_digits ds h.1) refl

plain_digits : (ds : List ℕ) → 0 < length ds → length ds ≤ 10 → AllDigits 10 ds → is_plain ds ≡ true
plain_digits [] some most h = absurd (omega arith)
plain_digits (d ∷ ds) some most h =
    let few : nat_le (length ds) 59 ≡ true = grind (arith, nat_tests, most) in
    rw (few, dark_digits (d ∷ ds) h) refl

pub plain_decimal : (n : ℕ) → n < 4294967296 → is_plain (decimal n) ≡ true
plain_decimal n lt =
    let wide : n < 10 ^ 64 = omega (arith, lt) in
    let is = decimal_is_IsNumeral_wide n wide in
    plain_digits (decimal n) is.0.0 (length-decimal-le_wide 10 n (omega arith) (omega (arith, lt)) wide) is.0.1

-- ---- statuses

digit_dark : (d : ℕ) → d < 16 → is_dark (hex_digit d) ≡ true
digit_dark d lt = elim (cases_Bool (nat_le d 9)) [
  | inl e ↦ rw e (grind (arith, nat_tests))
  | inr e ↦ rw e (grind (arith, nat_tests))
]

pub plain_status : (s : ℕ) → is_plain (status_word s) ≡ true
plain_status s =
    let a = digit_dark (s / 4096 % 16) (omega arith) in
    let b = digit_dark (s / 256 % 16) (omega arith) in
    let c = digit_dark (s / 16 % 16) (omega arith) in
    let d = digit_dark (s % 16) (omega arith) in
    rw (a, b, c, d) refl
