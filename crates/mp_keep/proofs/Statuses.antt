-- What each event of the keeper's sequence leaves of where a slot is.
use Rattle.std.proofs.Common.{◌≡◌, ℕ, zero, suc, Bool, true, false, true≢false, List, [], Option, None, Some, refl, sym, ap, ◌∙◌, subst}
use Rattle.mp_core.specs.Status.{Status, unused, leaving, past, gone, scanned, cleared, ordered, MayOrder, is_used}
use Rattle.mp_keep.specs.declared.removal.Removal.{Removal}
use Rattle.mp_keep.specs.declared.stage.Stage.{Stage}
use Rattle.mp_keep.specs.declared.stage.Stage.TheVariants.{Marked, HalfA, Unlisted, HalfB, Past}
use Rattle.mp_keep.specs.Keeper.{StatusBy, has_reached, is_listed}
use Rattle.mp_keep.specs.Walks.{next_stage, next_side}

pub never : {A : Type 0} → false ≡ true → A
never e = absurd (true≢false (sym e))

reached_ordered : (s : Stage) (st : Status) → has_reached s st ≡ true → ordered (is_listed s) st ≡ st
reached_ordered Marked (leaving a b) h = refl
reached_ordered Marked (past ns) h = refl
reached_ordered Marked st h = never h
reached_ordered HalfA (leaving a b) h = refl
reached_ordered HalfA (past ns) h = refl
reached_ordered HalfA st h = never h
reached_ordered Unlisted (gone a b) h = refl
reached_ordered Unlisted st h = never h
reached_ordered HalfB (gone a b) h = refl
reached_ordered HalfB st h = never h
reached_ordered Past (gone a b) h = refl
reached_ordered Past st h = never h

reached_may : (s : Stage) (st : Status) → has_reached s st ≡ true → MayOrder (is_listed s) st
reached_may Marked (leaving a b) h = tt
reached_may Marked (past ns) h = tt
reached_may Marked st h = never h
reached_may HalfA (leaving a b) h = tt
reached_may HalfA (past ns) h = tt
reached_may HalfA st h = never h
reached_may Unlisted (gone a b) h = tt
reached_may Unlisted st h = never h
reached_may HalfB (gone a b) h = tt
reached_may HalfB st h = never h
reached_may Past (gone a b) h = tt
reached_may Past st h = never h

reached_scanned : (s : Stage) (x : ℕ) (st : Status) → has_reached s st ≡ true → has_reached s (scanned x st) ≡ true
reached_scanned Marked zero (leaving a true) h = refl
reached_scanned Marked zero (leaving a false) h = refl
reached_scanned Marked (suc x) (leaving true b) h = refl
reached_scanned Marked (suc x) (leaving false b) h = refl
reached_scanned Marked zero (past ns) h = refl
reached_scanned Marked (suc x) (past ns) h = refl
reached_scanned Marked x st h = never h
reached_scanned HalfA zero (leaving a true) h = refl
reached_scanned HalfA zero (leaving a false) h = never h
reached_scanned HalfA (suc x) (leaving true b) h = refl
reached_scanned HalfA (suc x) (leaving false b) h = refl
reached_scanned HalfA zero (past ns) h = refl
reached_scanned HalfA (suc x) (past ns) h = refl
reached_scanned HalfA x st h = never h
reached_scanned Unlisted zero (gone a b) h = refl
reached_scanned Unlisted (suc x) (gone a b) h = refl
reached_scanned Unlisted x st h = never h
reached_scanned HalfB zero (gone a b) h = refl
reached_scanned HalfB (suc x) (gone a b) h = h
reached_scanned HalfB x st h = never h
reached_scanned Past zero (gone true b) h = h
reached_scanned Past (suc x) (gone true b) h = refl
reached_scanned Past zero (gone false b) h = never h
reached_scanned Past (suc x) (gone false b) h = never h
reached_scanned Past x st h = never h

reached_cleared : (s : Stage) (n : ℕ) (st : Status) → has_reached s st ≡ true → has_reached s (cleared n st) ≡ true
reached_cleared Marked n (leaving a b) h = h
reached_cleared Marked n (past ns) h = refl
reached_cleared Marked n st h = never h
reached_cleared HalfA n (leaving a b) h = h
reached_cleared HalfA n (past ns) h = refl
reached_cleared HalfA n st h = never h
reached_cleared Unlisted n (gone a b) h = h
reached_cleared Unlisted n st h = never h
reached_cleared HalfB n (gone a b) h = h
reached_cleared HalfB n st h = never h
reached_cleared Past n (gone a b) h = h
reached_cleared Past n st h = never h

-- each event that isn't the slot's own leaves where it is
pub stays_scanned : (r : Option Removal) (b : Bool) (x : ℕ) (st : Status) → StatusBy r b st → StatusBy r b (scanned x st)
stays_scanned None true zero st h = ap (scanned 0) h
stays_scanned None true (suc x) st h = ap (scanned (suc x)) h
stays_scanned None false zero st h = ap (scanned 0) h
stays_scanned None false (suc x) st h = ap (scanned (suc x)) h
stays_scanned (Some r) b x st h = (reached_scanned r.stage x st h.0, h.1)

pub stays_cleared : (r : Option Removal) (b : Bool) (n : ℕ) (st : Status) → StatusBy r b st → StatusBy r b (cleared n st)
stays_cleared None true n st h = ap (cleared n) h
stays_cleared None false n st h = ap (cleared n) h
stays_cleared (Some r) b n st h = (reached_cleared r.stage n st h.0, h.1)

pub stays_ordered : (r : Option Removal) (b : Bool) (st : Status) → StatusBy r b st → StatusBy r b (ordered b st)
stays_ordered None true st h = ap (ordered true) h
stays_ordered None false st h = ap (ordered false) h
stays_ordered (Some r) b st h = (ap (has_reached r.stage) (ap (λ (c : Bool). ordered c st) h.1 ∙ reached_ordered r.stage st h.0) ∙ h.0, h.1)

-- a list of paths may leave each slot as it is
pub may_stay : (r : Option Removal) (b : Bool) (st : Status) → StatusBy r b st → MayOrder b st
may_stay None true st h = subst (MayOrder true) (sym h) tt
may_stay None false st h = subst (MayOrder false) (sym h) tt
may_stay (Some r) b st h = subst (λ (c : Bool). MayOrder c st) (sym h.1) (reached_may r.stage st h.0)

-- a slot is under removal, or listed
abbrev pub is_there : Option Removal → Bool → Bool
is_there None b = b
is_there (Some r) b = true

-- the second look of grace period A
abbrev pub is_second : Stage → Bool
is_second Marked = false
is_second HalfA = true
is_second Unlisted = false
is_second HalfB = false
is_second Past = false

-- a slot under removal isn't free, nor is one that is listed
pub used_is : (r : Option Removal) (b : Bool) (st : Status) → StatusBy r b st → is_used st ≡ is_there r b
used_is r b st h = of r b st h
  where
    reached_used : (s : Stage) (st : Status) → has_reached s st ≡ true → is_used st ≡ true
    reached_used Marked unused h = never h
    reached_used HalfA unused h = never h
    reached_used Unlisted unused h = never h
    reached_used HalfB unused h = never h
    reached_used Past unused h = never h
    reached_used s st h = refl

    of : (r : Option Removal) (b : Bool) (st : Status) → StatusBy r b st → is_used st ≡ is_there r b
    of None true st h = ap is_used h
    of None false st h = ap is_used h
    of (Some r) b st h = reached_used r.stage st h.0

-- the slot's own look at a side that finds nobody inside
pub reached_next : (s : Stage) (st : Status) → has_reached s st ≡ true → is_second s ≡ false → has_reached (next_stage s) (scanned (next_side s) st) ≡ true
reached_next Marked (leaving true b) h n = refl
reached_next Marked (leaving false b) h n = refl
reached_next Marked (past ns) h n = refl
reached_next Marked st h n = never h
reached_next HalfA st h n = never (sym n)
reached_next Unlisted (gone a b) h n = refl
reached_next Unlisted st h n = never h
reached_next HalfB (gone true b) h n = refl
reached_next HalfB (gone false b) h n = never h
reached_next HalfB st h n = never h
reached_next Past (gone true b) h n = h
reached_next Past (gone false b) h n = never h
reached_next Past st h n = never h

-- the slot's second look of grace period A that finds nobody inside
pub reached_past : (st : Status) → has_reached HalfA st ≡ true → (ns : List ℕ) × (scanned 0 st ≡ past ns)
reached_past (leaving a true) h = ([], refl)
reached_past (leaving a false) h = never h
reached_past (past ns) h = (ns, refl)
reached_past st h = never h
