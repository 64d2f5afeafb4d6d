-- Each part of the rule in a reader's words follows from it.
use Rattle.std.proofs.Common.{◌≡◌, ℕ, ◌≤◌, max, leb, le-leb, cond, eq-eqb, Bool, true, false, List, [], ◌∷◌, ◌++◌, get_or, sym, refl, ap, ◌∙◌, arith, Some}
use Rattle.mp_words.specs.declared.order.Order.{Order}
use Rattle.mp_words.specs.declared.entry.OrderEntry.{OrderEntry}
use Rattle.mp_words.specs.Row.{is_enabled}
use Rattle.mp_core.specs.declared.view.Event.{Event}
use Rattle.mp_core.specs.declared.view.Event.TheVariants.{Gives, Marks, Scans, Clears, Orders, Zeros, Frees}
use Rattle.mp_core.specs.declared.view.Start.{Start}
use Rattle.mp_core.specs.declared.view.View.{View}
use Rattle.mp_core.specs.Memory.{Memory, row_at}
use Rattle.mp_core.specs.Unpacked.{first_status}
use Rattle.mp_core.specs.Status.{Status, unused, fresh, bare, past, has}
use Rattle.mp_core.specs.Views.{seen_row, flying}
use Rattle.mp_rule.specs.Sequence.{is_listed, is_going, is_quiet, is_unnamed, scans, marks, orders, mark_floor, order_floor, span, given}
use Rattle.mp_rule.specs.Rule.{keeping, Reads, ReadsAbove, OrderAbove, ReadsSpan}
use Rattle.mp_rule.specs.History.{Every, ReadAt}
use Rattle.mp_rule.specs.Holds.{start_row, Holds}
use Rattle.mp_rule.specs.Parts.{status_of, SidesCount, RowsRecorded, OrderKept, DepthsCount, ScannedIsEmpty, BelowFrees, MarkIsSeen, UnlistingIsSeen, ReuseIsSafe}
use Rattle.mp_rule.proofs.Views.{le-total, by_case, noted_map}
use Rattle.mp_rule.proofs.Sequence.{quiet-barred, quiet-hidden, quiet-unnamed, never}
use Rattle.mp_rule.proofs.Floors.{above_leb}
use Rattle.mp_rule.proofs.Slots.{enabled_off}
use Rattle.mp_rule.proofs.Opening.{named_listed}

-- the floor is that of each Mark before each kept scan that the ticket is past
mark-in : (s m : ℕ) (newer older : List Event) → m ≤ marks s (newer ++ Marks s m ∷ older)
mark-in s m [] older = by_case (λ b. m ≤ cond b (max m (marks s older)) (marks s older)) s s (λ _. omega arith) (λ n. absurd (n refl))
mark-in s m (Marks y k ∷ newer) older = let r = mark-in s m newer older in by_case (λ b. m ≤ cond b (max k (marks s (newer ++ Marks s m ∷ older))) (marks s (newer ++ Marks s m ∷ older))) y s (λ _. omega arith) (λ _. r)
mark-in s m (Scans y e q ∷ newer) older = mark-in s m newer older
mark-in s m (Gives y k ∷ newer) older = mark-in s m newer older
mark-in s m (Clears n y ∷ newer) older = mark-in s m newer older
mark-in s m (Orders o ∷ newer) older = mark-in s m newer older
mark-in s m (Zeros y ∷ newer) older = mark-in s m newer older
mark-in s m (Frees y k ∷ newer) older = mark-in s m newer older

marks-more : (s : ℕ) (newer older : List Event) → marks s older ≤ marks s (newer ++ older)
marks-more s [] older = omega arith
marks-more s (Marks y k ∷ newer) older = let r = marks-more s newer older in by_case (λ b. marks s older ≤ cond b (max k (marks s (newer ++ older))) (marks s (newer ++ older))) y s (λ _. omega arith) (λ _. r)
marks-more s (Scans y e q ∷ newer) older = marks-more s newer older
marks-more s (Gives y k ∷ newer) older = marks-more s newer older
marks-more s (Clears n y ∷ newer) older = marks-more s newer older
marks-more s (Orders o ∷ newer) older = marks-more s newer older
marks-more s (Zeros y ∷ newer) older = marks-more s newer older
marks-more s (Frees y k ∷ newer) older = marks-more s newer older

both_high : (b : Bool) (n m f : ℕ) → n ≤ m → n ≤ f → n ≤ cond b m f
both_high true n m f h k = h
both_high false n m f h k = k

floor-covers : (s x t e q : ℕ) (newer older : List Event) → e ≤ t → marks s older ≤ mark_floor s x t (newer ++ Scans x e q ∷ older)
floor-covers s x t e q [] older l =
    let is : mark_floor s x t (Scans x e q ∷ older) ≡ marks s older = ap (λ (b : Bool). cond b (cond (leb e t) (marks s older) (mark_floor s x t older)) (mark_floor s x t older)) (eq-eqb x x refl) ∙ ap (λ (b : Bool). cond b (marks s older) (mark_floor s x t older)) (le-leb e t l) in omega arith
floor-covers s x t e q (Scans y k z ∷ newer) older l =
    let rest : List Event = newer ++ Scans x e q ∷ older in
    let r = floor-covers s x t e q newer older l in
    by_case (λ b. marks s older ≤ cond b (cond (leb k t) (marks s rest) (mark_floor s x t rest)) (mark_floor s x t rest)) y x (λ _. both_high (leb k t) (marks s older) (marks s rest) (mark_floor s x t rest) (marks-more s newer (Scans x e q ∷ older)) r) (λ _. r)
floor-covers s x t e q (Marks y k ∷ newer) older l = floor-covers s x t e q newer older l
floor-covers s x t e q (Gives y k ∷ newer) older l = floor-covers s x t e q newer older l
floor-covers s x t e q (Clears n y ∷ newer) older l = floor-covers s x t e q newer older l
floor-covers s x t e q (Orders o ∷ newer) older l = floor-covers s x t e q newer older l
floor-covers s x t e q (Zeros y ∷ newer) older l = floor-covers s x t e q newer older l
floor-covers s x t e q (Frees y k ∷ newer) older l = floor-covers s x t e q newer older l

order-in : (p : OrderEntry) (newer older : List Event) → p.order.version ≤ orders (newer ++ Orders p ∷ older)
order-in p [] older = omega arith
order-in p (Orders o ∷ newer) older = let r = order-in p newer older in omega arith
order-in p (Marks y k ∷ newer) older = order-in p newer older
order-in p (Scans y e q ∷ newer) older = order-in p newer older
order-in p (Gives y k ∷ newer) older = order-in p newer older
order-in p (Clears n y ∷ newer) older = order-in p newer older
order-in p (Zeros y ∷ newer) older = order-in p newer older
order-in p (Frees y k ∷ newer) older = order-in p newer older

orders-more : (newer older : List Event) → orders older ≤ orders (newer ++ older)
orders-more [] older = omega arith
orders-more (Orders o ∷ newer) older = let r = orders-more newer older in omega arith
orders-more (Marks y k ∷ newer) older = orders-more newer older
orders-more (Scans y e q ∷ newer) older = orders-more newer older
orders-more (Gives y k ∷ newer) older = orders-more newer older
orders-more (Clears n y ∷ newer) older = orders-more newer older
orders-more (Zeros y ∷ newer) older = orders-more newer older
orders-more (Frees y k ∷ newer) older = orders-more newer older

order-covers : (x t e q : ℕ) (newer older : List Event) → e ≤ t → orders older ≤ order_floor x t (newer ++ Scans x e q ∷ older)
order-covers x t e q [] older l =
    let is : order_floor x t (Scans x e q ∷ older) ≡ orders older = ap (λ (b : Bool). cond b (cond (leb e t) (orders older) (order_floor x t older)) (order_floor x t older)) (eq-eqb x x refl) ∙ ap (λ (b : Bool). cond b (orders older) (order_floor x t older)) (le-leb e t l) in omega arith
order-covers x t e q (Scans y k z ∷ newer) older l =
    let rest : List Event = newer ++ Scans x e q ∷ older in
    let r = order-covers x t e q newer older l in
    by_case (λ b. orders older ≤ cond b (cond (leb k t) (orders rest) (order_floor x t rest)) (order_floor x t rest)) y x (λ _. both_high (leb k t) (orders older) (orders rest) (order_floor x t rest) (orders-more newer (Scans x e q ∷ older)) r) (λ _. r)
order-covers x t e q (Orders o ∷ newer) older l = order-covers x t e q newer older l
order-covers x t e q (Marks y k ∷ newer) older l = order-covers x t e q newer older l
order-covers x t e q (Gives y k ∷ newer) older l = order-covers x t e q newer older l
order-covers x t e q (Clears n y ∷ newer) older l = order-covers x t e q newer older l
order-covers x t e q (Zeros y ∷ newer) older l = order-covers x t e q newer older l
order-covers x t e q (Frees y k ∷ newer) older l = order-covers x t e q newer older l

true_or : (b c : Bool) → c ≡ true → cond b true c ≡ true
true_or true c h = refl
true_or false c h = h

span-covers : (g : Bool) (s m n : ℕ) (newer older : List Event) → m ≤ n → BelowFrees s n newer → span g s n (newer ++ Marks s m ∷ older) ≡ true
span-covers g s m n [] older l f = ap (λ (b : Bool). cond b (cond (leb m n) true (span g s n older)) (span g s n older)) (eq-eqb s s refl) ∙ ap (λ (b : Bool). cond b true (span g s n older)) (le-leb m n l)
span-covers g s m n (Marks y k ∷ newer) older l f =
    let rest : List Event = newer ++ Marks s m ∷ older in
    let r = span-covers g s m n newer older l f in by_case (λ b. cond b (cond (leb k n) true (span g s n rest)) (span g s n rest) ≡ true) y s (λ _. true_or (leb k n) (span g s n rest) r) (λ _. r)
span-covers g s m n (Frees y k ∷ newer) older l f =
    let rest : List Event = newer ++ Marks s m ∷ older in
    let r = span-covers g s m n newer older l f.1 in by_case (λ b. cond b (cond (leb k n) false (span g s n rest)) (span g s n rest) ≡ true) y s (λ e. ap (λ (b : Bool). cond b false (span g s n rest)) (above_leb k n (f.0 e)) ∙ r) (λ _. r)
span-covers g s m n (Scans y e q ∷ newer) older l f = span-covers g s m n newer older l f
span-covers g s m n (Gives y k ∷ newer) older l f = span-covers g s m n newer older l f
span-covers g s m n (Clears k y ∷ newer) older l f = span-covers g s m n newer older l f
span-covers g s m n (Orders o ∷ newer) older l f = span-covers g s m n newer older l f
span-covers g s m n (Zeros y ∷ newer) older l f = span-covers g s m n newer older l f

-- the entries of each kept scan, and the version of each give, are among the greatest
scan-in : (x e q : ℕ) (newer older : List Event) → e ≤ scans x (newer ++ Scans x e q ∷ older)
scan-in x e q [] older = by_case (λ b. e ≤ cond b (max e (scans x older)) (scans x older)) x x (λ _. omega arith) (λ n. absurd (n refl))
scan-in x e q (Scans y k z ∷ newer) older = let r = scan-in x e q newer older in by_case (λ b. e ≤ cond b (max k (scans x (newer ++ Scans x e q ∷ older))) (scans x (newer ++ Scans x e q ∷ older))) y x (λ _. omega arith) (λ _. r)
scan-in x e q (Marks y k ∷ newer) older = scan-in x e q newer older
scan-in x e q (Gives y k ∷ newer) older = scan-in x e q newer older
scan-in x e q (Clears n y ∷ newer) older = scan-in x e q newer older
scan-in x e q (Orders o ∷ newer) older = scan-in x e q newer older
scan-in x e q (Zeros y ∷ newer) older = scan-in x e q newer older
scan-in x e q (Frees y k ∷ newer) older = scan-in x e q newer older

give-in : (s g : ℕ) (newer older : List Event) → g ≤ given s (newer ++ Gives s g ∷ older)
give-in s g [] older = by_case (λ b. g ≤ cond b (max g (given s older)) (given s older)) s s (λ _. omega arith) (λ n. absurd (n refl))
give-in s g (Gives y k ∷ newer) older = let r = give-in s g newer older in by_case (λ b. g ≤ cond b (max k (given s (newer ++ Gives s g ∷ older))) (given s (newer ++ Gives s g ∷ older))) y s (λ _. omega arith) (λ _. r)
give-in s g (Scans y e q ∷ newer) older = give-in s g newer older
give-in s g (Marks y k ∷ newer) older = give-in s g newer older
give-in s g (Clears n y ∷ newer) older = give-in s g newer older
give-in s g (Orders o ∷ newer) older = give-in s g newer older
give-in s g (Zeros y ∷ newer) older = give-in s g newer older
give-in s g (Frees y k ∷ newer) older = give-in s g newer older

pub sides_count : (start : Start) (m : Memory) (views : List View) → Holds start m views → SidesCount m views
sides_count start m views h = record {
  inside = λ x. (h.graces.sides x).counted;
  below = λ x. (h.graces.sides x).below;
  differ = h.sums.single;
  entries = h.sums.entries;
  rows = h.sums.rows;
  order = h.sums.order;
}

pub rows_recorded : (start : Start) (m : Memory) (views : List View) → Holds start m views → RowsRecorded start m views
rows_recorded start m views h = record {
  once = λ s. (h.rows s).once;
  within = λ s. (h.rows s).within;
  begins = λ s. (h.rows s).begins;
  follows = λ s. (h.rows s).follows;
  last = λ s. (h.rows s).last;
  first = λ s. (h.rows s).start;
  seen = λ s i v a. ((h.rows s).each i v a).to;
  seen_made = λ s i v a. ((h.rows s).each i v a).own;
  seen_read = λ s i v a. noted_map (Reads (ReadAt s (start_row start s) (row_at m s) (seen_row v s) views) s) (Reads (λ r. r.version ≤ seen_row v s) s) (λ n k r x. (k r x).to) v ((h.rows s).each i v a).reads;
  read = λ s i v a. noted_map (Reads (ReadAt s (start_row start s) (row_at m s) (seen_row v s) views) s) (Reads (λ r. Every s (λ e. e.row.version ≡ r.version → e.row ≡ r) views) s) (λ n k r x. (k r x).is) v ((h.rows s).each i v a).reads;
  read_first = λ s i v a. noted_map (Reads (ReadAt s (start_row start s) (row_at m s) (seen_row v s) views) s) (Reads (λ r. r.version ≡ (start_row start s).version → r ≡ start_row start s) s) (λ n k r x. (k r x).start) v ((h.rows s).each i v a).reads;
  order_seen = λ i v a. (h.orders i v a).to;
  order_read = λ i v a. (h.orders i v a).reads;
}

pub order_kept : (start : Start) (m : Memory) (views : List View) → Holds start m views → OrderKept start m views
order_kept start m views h = record {
  last = h.graces.stored;
  index = λ i v a e. h.lanes.own i v a (h.graces.keeper i v a e);
  listed = h.lanes.listed;
  once = h.lanes.once;
  free = λ s. (h.graces.slots s).taken;
  lanes = λ i v a d. h.made i v a d;
}

pub depths_count : (start : Start) (m : Memory) (views : List View) → Holds start m views → DepthsCount start m views
depths_count start m views h = record {
  depth = λ s. (h.graces.slots s).counted;
  present = λ s g newer older is i v a j d l e.
      let low = (h.graces.lives s).flown i v a j d l e in
      let has = give-in s g newer older in
      let same = ap (given s) is in omega arith;
  budget = h.sums.budget;
}

pub scanned_is_empty : (start : Start) (m : Memory) (views : List View) → Holds start m views → ScannedIsEmpty views
scanned_is_empty start m views h = record {
  over = λ x e o newer older is i v a t at side.
      let low = (h.graces.sides x).over i v a t at side in
      let has = scan-in x e o newer older in
      let same = ap (scans x) is in omega arith;
}

pub mark_is_seen : (start : Start) (m : Memory) (views : List View) → Holds start m views → MarkIsSeen views
mark_is_seen start m views h = record {
  seen = λ s x e o k newer mid older is i v a. noted_map (ReadsAbove s (keeping views)) (λ n. n.side ≡ x → e ≤ n.ticket → Reads (λ r. k ≤ r.version) s n)
      (λ n reads side above r y.
      let low = mark-in s k mid older in
      let covers = floor-covers s n.side n.ticket e o newer (mid ++ Marks s k ∷ older) above in
      let same : mark_floor s n.side n.ticket (keeping views) ≡ mark_floor s n.side n.ticket (newer ++ Scans n.side e o ∷ (mid ++ Marks s k ∷ older)) = ap (mark_floor s n.side n.ticket) is ∙ ap (λ (z : ℕ). mark_floor s n.side n.ticket (newer ++ Scans z e o ∷ (mid ++ Marks s k ∷ older))) (sym side) in
      let z = reads r y in omega arith)
      v ((h.graces.marks s).read i v a);
  off = λ s k newer older is i v a. noted_map (ReadsSpan (is_going (first_status start s)) s (row_at m s).version (keeping views)) (Reads (λ r. k ≤ r.version → BelowFrees s r.version newer → is_enabled r ≡ false) s)
      (λ n reads r y le below. enabled_off r ((reads r y).1 (ap (span (is_going (first_status start s)) s r.version) is ∙ span-covers (is_going (first_status start s)) s k r.version newer older le below)))
      v ((h.graces.spans s).read i v a);
  written = λ s k newer older is i v a j d l slot le below.
      let g : Bool = is_going (first_status start s) in
      let n : ℕ = (get_or v.entries j d).row.version in ((h.graces.spans s).written i v a j d l slot).1 (ap (span g s n) is ∙ span-covers g s k n newer older le below);
}

cleared_unnamed : (n : ℕ) (ns : List ℕ) (st : Status) → st ≡ past ns → has n ns ≡ true → is_unnamed n st ≡ true
cleared_unnamed n ns st e h = ap (is_unnamed n) e ∙ h

pub unlisting_is_seen : (start : Start) (m : Memory) (views : List View) → Holds start m views → UnlistingIsSeen start m views
unlisting_is_seen start m views h = record {
  seen = λ x e o p newer mid older is i v a. noted_map (OrderAbove (keeping views)) (λ n. n.side ≡ x → e ≤ n.ticket → (q : Order) → n.order ≡ Some q → p.order.version ≤ q.version)
      (λ n r side above q has.
      let low = order-in p mid older in
      let covers = order-covers n.side n.ticket e o newer (mid ++ Orders p ∷ older) above in
      let same : order_floor n.side n.ticket (keeping views) ≡ order_floor n.side n.ticket (newer ++ Scans n.side e o ∷ (mid ++ Orders p ∷ older)) = ap (order_floor n.side n.ticket) is ∙ ap (λ (z : ℕ). order_floor n.side n.ticket (newer ++ Scans z e o ∷ (mid ++ Orders p ∷ older))) (sym side) in
      let y = r q has in omega arith)
      v (h.graces.orders.read i v a);
  cleared = λ s n ns low is cleared. (h.graces.slots s).unnamed n low (cleared_unnamed n ns _ is cleared);
  named = named_listed start m views h;
}

quiet-unlisted : (st : Status) → is_quiet st ≡ true → is_listed st ≡ false
quiet-unlisted unused h = refl
quiet-unlisted fresh h = refl
quiet-unlisted bare h = refl
quiet-unlisted st h = never h

pub reuse_is_safe : (start : Start) (m : Memory) (views : List View) → Holds start m views → ReuseIsSafe start m views
reuse_is_safe start m views h = record {
  safe = λ s q. let k = h.graces.slots s in let st : Status = status_of start views s in record {
    unlisted = k.listed ∙ quiet-unlisted st q;
    unread = λ i v a t e. k.hidden i v a t e (quiet-hidden t.note.side st q);
    disabled = λ i v a t e. k.barred i v a t e (quiet-barred t.note.side st q);
    empty = λ i v a. let z = k.idle q in let c = k.counted in let l = le-total (flying s) views i v a in omega arith;
    unnamed = λ n l e. k.unnamed n l (quiet-unnamed n st q) e;
    still = λ i v a l e x. k.still i v a l e x q;
  };
}
