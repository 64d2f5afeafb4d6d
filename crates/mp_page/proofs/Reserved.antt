-- A page is the same where bytes that it doesn't have are others.
use Rattle.std.proofs.Common.{◌≡◌, inl, inr, ℕ, zero, suc, ◌+◌, ◌*◌, ◌-◌, ◌≤◌, ◌<◌, List, [], ◌∷◌, ◌++◌, length, drop, refl, sym, ◌∙◌, arith, length-drop, length-append}
use Rattle.std.specs.Prelude.{slice_index}
use Rattle.std.proofs.lemmas.List.{get_or-drop, get_or_append_left}
use Rattle.byteorder.specs.Endian.{little_from}
use Rattle.mp_page.specs.declared.page.Group.{Group}
use Rattle.mp_page.specs.declared.page.Page.{Page}
use Rattle.mp_page.specs.Page.{number, numbers}
use Rattle.mp_page.specs.Grammar.{group_size, IsGroup, AreGroups, IsPage, IsReservedIn, IsReserved}

-- the two have the same bytes from one place to another
abbrev Agree : List ℕ → List ℕ → ℕ → ℕ → Type 0
Agree xs ys from to = (k : ℕ) → from ≤ k → k < to → slice_index xs k ≡ slice_index ys k

little_same : (i n : ℕ) (xs ys : List ℕ) → Agree xs ys i (i + n) → little_from i n xs ≡ little_from i n ys
little_same i zero xs ys agree = refl
little_same i (suc n) xs ys agree =
    let here : slice_index xs i ≡ slice_index ys i = agree i (omega arith) (omega arith) in
    let rest : Agree xs ys (suc i) (suc i + n) = λ k a b. agree k (omega arith) (omega arith) in
    rw (here, little_same (suc i) n xs ys rest) refl

number_same : (place n : ℕ) (xs ys : List ℕ) → Agree xs ys place (place + n) → number place n xs ≡ number place n ys
unfolding number
number_same place n xs ys agree = little_same 0 n (drop place xs) (drop place ys) (λ k a b. get_or-drop place xs k 0 ∙ agree (place + k) (omega arith) (omega arith) ∙ sym (get_or-drop place ys k 0))

numbers_same : (n place : ℕ) (xs ys : List ℕ) → Agree xs ys place (place + 4 * n) → numbers n place xs ≡ numbers n place ys
numbers_same zero place xs ys agree = refl
numbers_same (suc n) place xs ys agree =
    rw (number_same place 4 xs ys (λ k a b. agree k a (omega arith)), numbers_same n (place + 4) xs ys (λ k a b. agree k (omega arith) (omega arith))) refl

group_same : (max : ℕ) (bytes other : List ℕ) (group : Group) → IsGroup max bytes group → length bytes ≤ length other → Agree other bytes 0 17 → Agree other bytes 32 (group_size group) → IsGroup max other group
group_same max bytes other group is longer first list = record {
  header = omega (arith, is.header);
  id = number_same 0 4 other bytes (λ k a b. first k a (omega arith)) ∙ is.id;
  not_zero = is.not_zero;
  within = is.within;
  changes = number_same 8 8 other bytes (λ k a b. first k (omega arith) (omega arith)) ∙ is.changes;
  state = first 16 (omega arith) (omega arith) ∙ is.state;
  state_from = is.state_from;
  state_to = is.state_to;
  count = number_same 4 4 other bytes (λ k a b. first k (omega arith) (omega arith)) ∙ is.count;
  list = omega (arith, is.list);
  nsids = numbers_same (length group.nsids) 32 other bytes list ∙ is.nsids;
}

-- the two have the same bytes but for those that are reserved
abbrev AgreeBut : (ℕ → Type 0) → List ℕ → List ℕ → Type 0
AgreeBut Reserved other bytes = (k : ℕ) → k < length bytes → (Reserved k → ⊥) → slice_index other k ≡ slice_index bytes k

groups_same : (max : ℕ) (bytes other : List ℕ) (groups : List Group) → AreGroups max bytes groups → length bytes ≤ length other → AgreeBut (IsReservedIn groups) other bytes → AreGroups max other groups
groups_same max bytes other [] are longer agree = tt
groups_same max bytes other (group ∷ groups) are longer agree =
    let is = are.0 in
    let size = group_size group in
    let first : Agree other bytes 0 17 = λ k a b. agree k (omega (arith, is.header)) (λ r. elim r [ inl in_group ↦ absurd (omega (arith, in_group)) | inr past ↦ absurd (omega (arith, past.0)) ]) in
    let list : Agree other bytes 32 size = λ k a b. agree k (omega (arith, is.list)) (λ r. elim r [ inl in_group ↦ absurd (omega (arith, in_group)) | inr past ↦ absurd (omega (arith, past.0)) ]) in
    let rest : AgreeBut (IsReservedIn groups) (drop size other) (drop size bytes) = λ k lt free.
    get_or-drop size other k 0 ∙ agree (size + k) (omega (arith, length-drop size bytes, is.list))
    (λ r. elim r [ inl in_group ↦ absurd (omega (arith, in_group)) | inr past ↦ free (let back : size + k - size ≡ k = omega arith in rw back at past.1) ])
    ∙ sym (get_or-drop size bytes k 0) in
    (group_same max bytes other group is longer first list, groups_same max (drop size bytes) (drop size other) groups are.1 (omega (arith, length-drop size bytes, length-drop size other)) rest)

page_same : (max : ℕ) (bytes other : List ℕ) (page : Page) → IsPage max bytes page → length bytes ≤ length other → AgreeBut (IsReserved page) other bytes → IsPage max other page
page_same max bytes other page is longer agree =
    let first : Agree other bytes 0 10 = λ k a b. agree k (omega (arith, is.header)) (λ r. elim r [ inl in_header ↦ absurd (omega (arith, in_header)) | inr past ↦ absurd (omega (arith, past.0)) ]) in
    let rest : AgreeBut (IsReservedIn page.groups) (drop 16 other) (drop 16 bytes) = λ k lt free.
    get_or-drop 16 other k 0 ∙ agree (16 + k) (omega (arith, length-drop 16 bytes, is.header))
    (λ r. elim r [ inl in_header ↦ absurd (omega (arith, in_header)) | inr past ↦ free (let back : 16 + k - 16 ≡ k = omega arith in rw back at past.1) ])
    ∙ sym (get_or-drop 16 bytes k 0) in
    record {
      header = omega (arith, is.header);
      changes = number_same 0 8 other bytes (λ k a b. first k a (omega arith)) ∙ is.changes;
      count = number_same 8 2 other bytes (λ k a b. first k (omega arith) (omega arith)) ∙ is.count;
      groups = groups_same max (drop 16 bytes) (drop 16 other) page.groups is.groups (omega (arith, length-drop 16 bytes, length-drop 16 other)) rest;
    }

pub with_more : (max : ℕ) (bytes more : List ℕ) (page : Page) → IsPage max bytes page → IsPage max (bytes ++ more) page
with_more max bytes more page is =
    page_same max bytes (bytes ++ more) page is (omega (arith, length-append bytes more)) (λ k lt free. get_or_append_left bytes more 0 k lt)

pub but_reserved : (max : ℕ) (bytes other : List ℕ) (page : Page) → IsPage max bytes page → length other ≡ length bytes
    → ((place : ℕ) → (IsReserved page place → ⊥) → slice_index other place ≡ slice_index bytes place) → IsPage max other page
but_reserved max bytes other page is len agree = page_same max bytes other page is (omega (arith, len)) (λ k lt free. agree k free)
