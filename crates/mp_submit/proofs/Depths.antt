-- The depths that a section loads.
use Rattle.std.proofs.Common.{◌≡◌, ◌∙◌, ℕ, zero, suc, ◌+◌, ◌<◌, ◌≤◌, ◌==◌, Bool, true, false, ◌&&◌, nat_lt, List, length, get_or, set, replicate, Option, Some, None, refl, sym, ap, subst, arith, ◌⊎◌, inl, inr, get_or-set_same, get_or-set_other}
use Rattle.std.specs.Option.{is_some}
use Rattle.std.proofs.lemmas.List.{length-set}
use Rattle.std.proofs.lemmas.Bool.{cases_Bool}
use Rattle.std.proofs.lemmas.Bool.Decides.{nat_tests}
use Rattle.mp_words.specs.declared.reading.Reading.{Reading}
use Rattle.mp_words.specs.declared.flight.Flight.{Flight}
use Rattle.mp_words.specs.Row.{is_usable}
use Rattle.mp_words.specs.Places.{place_in}
use Rattle.mp_words.proofs.Places.{cases_lt}
use Rattle.mp_core.specs.declared.view.Section.{Section}
use Rattle.mp_core.specs.declared.view.View.{View}
use Rattle.mp_core.specs.Core.{Core, looked}
use Rattle.mp_core.specs.Memory.{Memory, depth_at}
use Rattle.mp_core.specs.Views.{noted, flying}
use Rattle.mp_core.specs.Kinds.{LoadsDepth}
use Rattle.mp_core.specs.Reads.{IsNote, IsOpen, slot_of, row_of_place}
use Rattle.mp_core.proofs.Reading.{place_here}
use Rattle.mp_submit.specs.Selects.{LoadsDepths, with_depths}

pub no_depth : (place depth : ℕ) → get_or (replicate 8 None) place None ≡ Some depth → ⊥
no_depth zero depth e = cc
no_depth (suc zero) depth e = cc
no_depth (suc (suc zero)) depth e = cc
no_depth (suc (suc (suc zero))) depth e = cc
no_depth (suc (suc (suc (suc zero)))) depth e = cc
no_depth (suc (suc (suc (suc (suc zero))))) depth e = cc
no_depth (suc (suc (suc (suc (suc (suc zero)))))) depth e = cc
no_depth (suc (suc (suc (suc (suc (suc (suc zero))))))) depth e = cc
no_depth (suc (suc (suc (suc (suc (suc (suc (suc place)))))))) depth e = cc

-- of no depth that is still to come one was read
pub none_there : (place : ℕ) → is_some {T = ℕ} (get_or (replicate 8 None) place None) ≡ false
none_there zero = refl
none_there (suc zero) = refl
none_there (suc (suc zero)) = refl
none_there (suc (suc (suc zero))) = refl
none_there (suc (suc (suc (suc zero)))) = refl
none_there (suc (suc (suc (suc (suc zero))))) = refl
none_there (suc (suc (suc (suc (suc (suc zero)))))) = refl
none_there (suc (suc (suc (suc (suc (suc (suc zero))))))) = refl
none_there (suc (suc (suc (suc (suc (suc (suc (suc place)))))))) = refl

and_off : (b : Bool) → (b && false) ≡ false
and_off true = refl
and_off false = refl

not_yet : (place : ℕ) (b : Bool) → (nat_lt place 0 && b) ≡ false
not_yet place b = let off : nat_lt place 0 ≡ false = grind (arith, nat_tests) in rw off refl

-- one place more changes no other place
lt_else : (place k : ℕ) → (place == k) ≡ false → nat_lt place k ≡ nat_lt place (k + 1)
lt_else place k off = by (nat_lt place k) (nat_lt place (k + 1)) refl refl
  where
    by : (a b : Bool) → nat_lt place k ≡ a → nat_lt place (k + 1) ≡ b → nat_lt place k ≡ nat_lt place (k + 1)
    by true true x y = x ∙ sym y
    by false false x y = x ∙ sym y
    by true false x y = grind (arith, nat_tests)
    by false true x y = grind (arith, nat_tests)

lt_next : (k : ℕ) → nat_lt k (k + 1) ≡ true
lt_next k = grind (arith, nat_tests)

pub depths_none : (a : Core) (s : Section) → IsOpen a s → s.note.depths ≡ replicate 8 None → LoadsDepths 0 a a s s
depths_none a s is n = record {
  section = refl;
  after = ap (λ (v : View). record a { view = record v { seen = a.view.seen } }) is;
  count = ap length n;
  own = λ place depth e. absurd (no_depth place depth (sym (ap (λ xs. get_or xs place None) n) ∙ e));
  just = λ place. ap (λ xs. is_some (get_or xs place None)) n ∙ none_there place ∙ sym (not_yet place (is_usable (row_of_place s.note.reading place)));
  told = λ m e place l u. absurd (omega arith);
}

with_own : (s t : Section) (depths : List (Option ℕ)) → t ≡ with_depths depths s → t ≡ with_depths t.note.depths s
with_own s t depths e = e ∙ ap (λ (x : Section). with_depths x.note.depths s) (sym e)

inj : (a b : ℕ) → Some a ≡ Some b → a ≡ b
inj a b e = cc

-- the depth at one more place was loaded
pub depths_more : (k : ℕ) (a b c : Core) (s t u : Section) (slot depth : ℕ) → LoadsDepths k a b s t → IsNote s.note → slot ≡ slot_of t.note.reading k → k < s.note.reading.len → is_usable (row_of_place t.note.reading k) ≡ true → LoadsDepth b c t u slot depth → LoadsDepths (k + 1) a c s u
depths_more k a b c s t u slot depth h n is below on l =
    let reading : t.note.reading ≡ s.note.reading = ap (λ (x : Section). x.note.reading) h.section in
    let slot_is : slot ≡ slot_of s.note.reading k = is ∙ ap (λ (r : Reading). slot_of r k) reading in
    let place : place_in slot t.note.reading ≡ k = ap (λ (p : ℕ × Reading). place_in p.0 p.1) (λ i. (slot_is i, reading i)) ∙ place_here s.note k n below in
    let note_is : u ≡ with_depths (set t.note.depths k (Some depth)) t = l.section ∙ ap (λ q. with_depths (set t.note.depths q (Some depth)) t) place in
    let section : u ≡ with_depths (set t.note.depths k (Some depth)) s = note_is ∙ ap (with_depths (set t.note.depths k (Some depth))) h.section in
    let same : u.note.reading ≡ t.note.reading = ap (λ (x : Section). x.note.reading) note_is in
    let depths : u.note.depths ≡ set t.note.depths k (Some depth) = ap (λ (x : Section). x.note.depths) note_is in
    let told : b.told ≡ a.told = ap (λ (x : Core). x.told) h.after in
    let flights : b.view.flights ≡ a.view.flights = ap (λ (x : Core). x.view.flights) h.after in
    let within = n.within in
    let few : k < length t.note.depths = (let e = h.count in omega arith) in
    record {
      section = with_own s u _ section;
      after = l.after ∙ ap (looked (noted u)) h.after;
      count = ap length depths ∙ length-set t.note.depths k (Some depth) ∙ h.count;
      own = λ place d e. rw (ap (λ (r : Reading). slot_of r place) same) (own_now place d (cases_Bool (place == k)) few flights (sym (ap (λ xs. get_or xs place None) depths) ∙ e));
      just = λ place. ap (λ xs. is_some (get_or xs place None)) depths ∙ just_now place (cases_Bool (place == k)) few ∙ ap (λ (r : Reading). nat_lt place (k + 1) && is_usable (row_of_place r place)) (sym same);
      told = λ m e place lt us.
          let at = λ (r : Reading). slot_of r place in
          ap (λ xs. get_or xs place None) depths ∙ told_now m (told ∙ e) e place lt (cases_lt place k) few (ap (λ (r : Reading). is_usable (row_of_place r place)) (sym same) ∙ us) ∙ ap (λ (r : Reading). Some (depth_at m (slot_of r place))) (sym same);
    }
  where
    is_same : (x y : ℕ) → (x == y) ≡ true → x ≡ y
    is_same x y e = grind (arith, nat_tests)

    is_apart : (x y : ℕ) → (x == y) ≡ false → y ≡ x → ⊥
    is_apart x y e f = grind (arith, nat_tests)

    own_now : (place d : ℕ) → ((place == k) ≡ true) ⊎ ((place == k) ≡ false) → k < length t.note.depths → b.view.flights ≡ a.view.flights → get_or (set t.note.depths k (Some depth)) place None ≡ Some d → flying (slot_of t.note.reading place) a.view ≤ d
    own_now place d (inl here) few flights e =
        let same : place ≡ k = is_same place k here in
        let d_is : depth ≡ d = inj depth d (sym (ap (λ p. get_or (set t.note.depths k (Some depth)) p None) same ∙ get_or-set_same t.note.depths k (Some depth) None few) ∙ e) in
        let at : slot ≡ slot_of t.note.reading place = is ∙ ap (slot_of t.note.reading) (sym same) in
        let most = l.own in
        subst (λ (p : ℕ × ℕ). flying p.0 a.view ≤ p.1) (λ i. (at i, d_is i)) (subst (λ (fs : List Flight). flying slot (record (a.view) { flights = fs }) ≤ depth) flights most)
    own_now place d (inr off) few flights e = h.own place d (sym (get_or-set_other t.note.depths k place (Some depth) None (λ f. is_apart place k off (sym f))) ∙ e)

    just_now : (place : ℕ) → ((place == k) ≡ true) ⊎ ((place == k) ≡ false) → k < length t.note.depths → is_some (get_or (set t.note.depths k (Some depth)) place None) ≡ (nat_lt place (k + 1) && is_usable (row_of_place t.note.reading place))
    just_now place (inl here) few =
        let same : place ≡ k = is_same place k here in
        let read : is_some (get_or (set t.note.depths k (Some depth)) k None) ≡ true = ap is_some (get_or-set_same t.note.depths k (Some depth) None few) in
        let both : (nat_lt k (k + 1) && is_usable (row_of_place t.note.reading k)) ≡ true = rw (lt_next k) on in
        ap (λ p. is_some (get_or (set t.note.depths k (Some depth)) p None)) same ∙ read ∙ sym both ∙ ap (λ p. nat_lt p (k + 1) && is_usable (row_of_place t.note.reading p)) (sym same)
    just_now place (inr off) few =
        ap is_some (get_or-set_other t.note.depths k place (Some depth) None (λ f. is_apart place k off (sym f))) ∙ h.just place ∙ ap (λ b. b && is_usable (row_of_place t.note.reading place)) (lt_else place k off)

    told_now : (m : Memory) → b.told ≡ Some m → a.told ≡ Some m → (place : ℕ) → place < k + 1 → (place < k) ⊎ (k ≤ place) → k < length t.note.depths → is_usable (row_of_place t.note.reading place) ≡ true → get_or (set t.note.depths k (Some depth)) place None ≡ Some (depth_at m (slot_of t.note.reading place))
    told_now m tb ta place lt (inl x) few us = get_or-set_other t.note.depths k place (Some depth) None (omega arith) ∙ h.told m ta place x us
    told_now m tb ta place lt (inr x) few us =
        let same : place ≡ k = omega arith in
        ap (λ p. get_or (set t.note.depths k (Some depth)) p None) same ∙ get_or-set_same t.note.depths k (Some depth) None few
        ∙ ap Some (l.told m tb ∙ ap (depth_at m) (is ∙ ap (slot_of t.note.reading) (sym same)))

-- a row that isn't usable has no depth to load
pub depths_passed : (k : ℕ) (a b : Core) (s t : Section) → LoadsDepths k a b s t → is_usable (row_of_place t.note.reading k) ≡ false → LoadsDepths (k + 1) a b s t
depths_passed k a b s t h off = record {
  section = h.section;
  after = h.after;
  count = h.count;
  own = h.own;
  just = λ place. h.just place ∙ next place (cases_Bool (place == k));
  told = λ m e place lt us. now m e place lt us (cases_lt place k);
}
  where
    is_same : (x y : ℕ) → (x == y) ≡ true → x ≡ y
    is_same x y e = grind (arith, nat_tests)

    next : (place : ℕ) → ((place == k) ≡ true) ⊎ ((place == k) ≡ false) → (nat_lt place k && is_usable (row_of_place t.note.reading place)) ≡ (nat_lt place (k + 1) && is_usable (row_of_place t.note.reading place))
    next place (inl here) =
        let same : place ≡ k = is_same place k here in
        let unusable : is_usable (row_of_place t.note.reading place) ≡ false = ap (λ p. is_usable (row_of_place t.note.reading p)) same ∙ off in
        rw unusable (and_off (nat_lt place k) ∙ sym (and_off (nat_lt place (k + 1))))
    next place (inr other) = ap (λ b. b && is_usable (row_of_place t.note.reading place)) (lt_else place k other)

    now : (m : Memory) → a.told ≡ Some m → (place : ℕ) → place < k + 1 → is_usable (row_of_place t.note.reading place) ≡ true → (place < k) ⊎ (k ≤ place) → get_or t.note.depths place None ≡ Some (depth_at m (slot_of t.note.reading place))
    now m e place lt us (inl x) = h.told m e place x us
    now m e place lt us (inr x) =
        let same : place ≡ k = omega arith in
        let on = sym us ∙ ap (λ p. is_usable (row_of_place t.note.reading p)) same ∙ off in
        absurd cc

pub depth_place : (k : ℕ) (a b : Core) (s t : Section) (slot : ℕ) → LoadsDepths k a b s t → IsNote s.note → slot ≡ slot_of t.note.reading k → k < s.note.reading.len → place_in slot t.note.reading < t.note.reading.len
depth_place k a b s t slot h n is below =
    let reading : t.note.reading ≡ s.note.reading = ap (λ (x : Section). x.note.reading) h.section in
    let len : t.note.reading.len ≡ s.note.reading.len = ap (λ (r : Reading). r.len) reading in
    let slot_is : slot ≡ slot_of s.note.reading k = is ∙ ap (λ (r : Reading). slot_of r k) reading in
    let place : place_in slot t.note.reading ≡ k = ap (λ (p : ℕ × Reading). place_in p.0 p.1) (λ i. (slot_is i, reading i)) ∙ place_here s.note k n below in
    omega arith
