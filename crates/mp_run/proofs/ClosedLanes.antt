-- What lanes, the list and the drain leave, once nothing flies and nothing is to be listed.
use Rattle.std.proofs.Common.{[], ◌≡◌, ℕ, suc, ◌+◌, ◌<◌, ◌==◌, Bool, true, false, cond, List, ◌∷◌, ◌++◌, map, length, get_or, count_by, sum_by, refl, sym, ap, ◌∙◌, arith, append_assoc}
use Rattle.std.specs.List.{flat_map, AllByRecursion}
use Rattle.std.proofs.lemmas.List.Sums.{sum_by-append, sum_by-cons}
use Rattle.mp_words.specs.declared.entry.RowEntry.{RowEntry}
use Rattle.mp_words.specs.RequestView.{RequestView}
use Rattle.mp_desk.specs.DeskView.{DeskView}
use Rattle.mp_lane.specs.LaneView.{LaneView}
use Rattle.mp_legal.specs.ToldDesks.{times}
use Rattle.mp_run.specs.Closing.{ended_at, rows_at}
use Rattle.mp_run.specs.Runner.{made_by, no_lane, total}
use Rattle.mp_run.proofs.LaneStarts.{among, often}
use Rattle.mp_run.proofs.TurnFacts.{count}

-- ---- lanes closed one by one

-- one more is closed
pub map_on : {X Y : Type 0} (f : X → Y) (done new all : List Y) (x : X) (rest next : List X) → rest ≡ x ∷ next → done ++ map f rest ≡ all → new ≡ done ++ f x ∷ [] → new ++ map f next ≡ all
map_on f done new all x rest next is so more =
    ap (λ ys. ys ++ map f next) more ∙ append_assoc done (f x ∷ []) (map f next) ∙ ap (λ xs. done ++ map f xs) (sym is) ∙ so

pub flat_on : {X Y : Type 0} (f : X → List Y) (done new all : List Y) (x : X) (rest next : List X) → rest ≡ x ∷ next → done ++ flat_map f rest ≡ all → new ≡ done ++ f x → new ++ flat_map f next ≡ all
flat_on f done new all x rest next is so more =
    ap (λ ys. ys ++ flat_map f next) more ∙ append_assoc done (f x) (flat_map f next) ∙ ap (λ xs. done ++ flat_map f xs) (sym is) ∙ so

-- what holds of each lane by its number holds of all
pub each_lane : (P : LaneView → Type 0) (vs : List LaneView) → ((n : ℕ) → n < length vs → P (get_or vs n no_lane)) → AllByRecursion P vs
each_lane P [] each = tt
each_lane P (v ∷ vs) each = (each 0 (omega arith), each_lane P vs (λ n low. each (suc n) (omega (arith, low))))

pub all_both : {X : Type 0} (P : X → Type 0) (xs ys : List X) → AllByRecursion P xs → AllByRecursion P ys → AllByRecursion P (xs ++ ys)
all_both P [] ys a b = b
all_both P (x ∷ xs) ys a b = (a.0, all_both P xs ys a.1 b)

pub all_flat : (P : RequestView → Type 0) (vs : List LaneView) → AllByRecursion (λ v. AllByRecursion P v.desk.ended) vs → AllByRecursion P (flat_map ended_at vs)
all_flat P [] all = tt
all_flat P (v ∷ vs) all = all_both P v.desk.ended (flat_map ended_at vs) all.0 (all_flat P vs all.1)

-- ---- counts

among_append : (n : ℕ) (xs ys : List RequestView) → among n (xs ++ ys) ≡ among n xs + among n ys
among_append n xs ys = sum_by-append (λ (r : RequestView). cond (r.id == n) 1 0) xs ys

-- Nothing flies at a desk, and nothing is to be listed.
pub record IsDone (d : DeskView) : Type 0 where
  pub flying : d.flying ≡ []
  pub out : d.out ≡ []

done_times : (n : ℕ) (d : DeskView) → IsDone d → times n d ≡ among n d.ended
done_times n d done = let first : times n d ≡ 0 + (0 + among n d.ended) = rw (done.flying, done.out) refl in omega (arith, first)

lanes_times : (n : ℕ) (vs : List LaneView) → AllByRecursion (λ v. IsDone v.desk) vs → sum_by (λ v. times n v.desk) vs ≡ among n (flat_map ended_at vs)
lanes_times n [] all = refl
lanes_times n (v ∷ vs) all =
    let more = lanes_times n vs all.1 in
    let one = done_times n v.desk all.0 in
    let cut = sum_by-cons (λ (u : LaneView). times n u.desk) v vs in
    let sum = among_append n v.desk.ended (flat_map ended_at vs) in
    omega (arith, more, one, cut, sum)

-- all requests of a number are where they ended or wait
pub all_left : (n : ℕ) (vs : List LaneView) (list : List RequestView) (d : DeskView) → AllByRecursion (λ v. IsDone v.desk) vs → IsDone d → total n vs list d ≡ among n (flat_map ended_at vs ++ (list ++ d.ended))
all_left n vs list d all done =
    let first = lanes_times n vs all in
    let last = done_times n d done in
    let sum = among_append n (flat_map ended_at vs) (list ++ d.ended) in
    let more = among_append n list d.ended in
    omega (arith, first, last, sum, more)

rows_append : (of : RowEntry → Bool) (xs ys : List RowEntry) → count_by of (xs ++ ys) ≡ count_by of xs + count_by of ys
rows_append of xs ys = sum_by-append (λ (e : RowEntry). cond (of e) 1 0) xs ys

rows_made : (of : RowEntry → Bool) (vs : List LaneView) → sum_by (λ v. count_by of v.desk.rows) vs ≡ count_by of (flat_map rows_at vs)
rows_made of [] = refl
rows_made of (v ∷ vs) =
    let more = rows_made of vs in
    let cut = sum_by-cons (λ (u : LaneView). count_by of u.desk.rows) v vs in
    let sum = rows_append of v.desk.rows (flat_map rows_at vs) in
    omega (arith, more, cut, sum)

-- all entries of a kind are those that lanes and the drain made
pub all_made : (of : RowEntry → Bool) (vs : List LaneView) (d : DeskView) → made_by of vs d ≡ count_by of (flat_map rows_at vs ++ d.rows)
all_made of vs d =
    let first = rows_made of vs in
    let sum = rows_append of (flat_map rows_at vs) d.rows in
    omega (arith, first, sum)

-- how often a number stands in a list, in two ways
pub often_count : (n : ℕ) (ns : List ℕ) → often n ns ≡ count n ns
often_count n [] = refl
often_count n (m ∷ ns) = sum_by-cons (λ (k : ℕ). cond (k == n) 1 0) m ns ∙ step (m == n) (often n ns) (count n ns) (often_count n ns)
  where
    step : (b : Bool) (s c : ℕ) → s ≡ c → cond b 1 0 + s ≡ cond b (suc c) c
    step true s c e = omega (arith, e)
    step false s c e = omega (arith, e)
