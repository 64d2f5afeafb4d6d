-- The finish of flights of a desk, one after the other.
use Rattle.std.proofs.Common.{◌≡◌, ℕ, zero, suc, ◌+◌, ◌<◌, ◌≤◌, true, List, [], ◌∷◌, ◌++◌, length, map, Option, Some, None, append-nil, append_assoc, refl, sym, ap, ◌∙◌, subst, arith}
use Rattle.std.specs.Prelude.{Result, Ok, Err}
use Rattle.std.proofs.lemmas.Bool.{eqb-true}
use Rattle.std.proofs.lemmas.List.{nil_from_length, length-append}
use Rattle.mp_words.specs.declared.answers.Answer.{Answer}
use Rattle.mp_words.specs.declared.near.Near.{Near}
use Rattle.mp_words.specs.declared.trying.Back.{Back}
use Rattle.mp_core.specs.Core.{Core}
use Rattle.mp_keep.specs.Keeper.{KeeperView}
use Rattle.mp_desk.specs.declared.flying.Flying.{Flying}
use Rattle.mp_desk.specs.declared.halt.Halt.{Halt}
use Rattle.mp_desk.specs.declared.halt.Halt.TheVariants as halt
use Rattle.mp_desk.specs.DeskView.{DeskView, flying_with, landing, unended}
use Rattle.mp_desk.specs.Calls.{DeskCall, Means, Stand, finish, CallTo, CallsTo, StopsTo, BreaksTo, Does, IfWant, FlightStays, FlightEnds, FlightFalls, FlightDrops, After, Taking, TakesFlying, Sits, KeepsPass}
use Rattle.mp_desk.specs.Desks.{BreaksFlight, DoesFlight, IsTaken, KeepsStand, Leaves, stand}
use Rattle.mp_desk.specs.Indexed.{TakesFirst, flying_of, is_named}
use Rattle.mp_desk.proofs.Finishing.{means}
use Rattle.mp_desk.proofs.Indexed.{of-append}
use Rattle.mp_desk.proofs.Sitting.{kept_on}

-- So many flights of the number were finished, the first ones, and these are left.
pub record Finished (w : Means) (named : Option ℕ) (p q : Stand) (n : ℕ) : Type 0 where
  pub gone : List Flying
  pub split : flying_of named p.desk.flying ≡ gone ++ flying_of named q.desk.flying
  pub counted : length gone ≡ n
  pub calls : CallsTo w (map finish gone) p q

-- The finishes go on from here.
pub record GoesOn (answers : List Answer) (named : Option ℕ) (a c : Core) (d e : DeskView) (n most : ℕ) : Type 0 where
  pub sits : Sits c e
  pub kept : KeepsPass a c
  pub all : most ≡ length (flying_of named d.flying)
  pub stands : KeepsStand a c
  pub weight : unended e ≤ unended d
  pub done : (near : Near) (line : ℕ) (k : KeeperView) → Finished (means near answers line) named (stand a d k) (stand c e k) n

-- one call more
pub call_more : (w : Means) (cs : List DeskCall) (c : DeskCall) (p m q : Stand) → CallsTo w cs p m → CallTo w c m q → CallsTo w (cs ++ c ∷ []) p q
call_more w [] c p m q is h = (q, subst (λ (z : Stand). CallTo w c z q) is h, refl)
call_more w (b ∷ cs) c p m q calls h = (calls.0, calls.1, call_more w cs c calls.0 m q calls.2 h)

map_more : (gone : List Flying) (f : Flying) → map finish gone ++ finish f ∷ [] ≡ map finish (gone ++ f ∷ [])
map_more [] f = refl
map_more (g ∷ gone) f = ap (λ (cs : List DeskCall). finish g ∷ cs) (map_more gone f)

map_split : (gone : List Flying) (f : Flying) (rest : List Flying) → map finish (gone ++ f ∷ rest) ≡ map finish gone ++ finish f ∷ map finish rest
map_split [] f rest = refl
map_split (g ∷ gone) f rest = ap (λ (cs : List DeskCall). finish g ∷ cs) (map_split gone f rest)

none_with : (named : Option ℕ) (f : Flying) (before : List Flying) → is_named named f.flight.req ≡ true → flying_of named before ≡ [] → flying_with f.flight.req before ≡ []
none_with None f before named_so hasnt = ap (flying_with f.flight.req) hasnt
none_with (Some req) f before named_so hasnt = ap (λ (n : ℕ). flying_with n before) (eqb-true f.flight.req req named_so) ∙ hasnt

first_of : (named : Option ℕ) (f : Flying) (after : List Flying) → is_named named f.flight.req ≡ true → flying_of named (f ∷ after) ≡ f ∷ flying_of named after
first_of None f after named_so = refl
first_of (Some req) f after named_so = rw named_so refl

-- the desk without it
pub takes_so : (named : Option ℕ) (f : Flying) (e : DeskView) (new : List Flying) → TakesFirst named f e.flying new → TakesFlying f e (record e { flying = new })
takes_so named f e new t = record {
  before = t.before;
  after = t.after;
  was = t.was;
  none = none_with named f t.before t.named_so t.none;
  is = λ i. record e { flying = t.is i };
}

-- the flights of the number were it and those that are left
left_so : (named : Option ℕ) (f : Flying) (old new : List Flying) → TakesFirst named f old new → flying_of named old ≡ f ∷ flying_of named new
left_so named f old new t =
    ap (flying_of named) t.was ∙ of-append named t.before (f ∷ t.after) ∙ (λ i. t.none i ++ first_of named f t.after t.named_so i)
    ∙ ap (λ (fs : List Flying). f ∷ fs) (sym (ap (flying_of named) t.is ∙ of-append named t.before t.after ∙ (λ i. t.none i ++ flying_of named t.after)))

pub taken_so : (named : Option ℕ) (f : Flying) (c : Core) (e : DeskView) (new : List Flying) → TakesFirst named f e.flying new → Sits c e → IsTaken f c (record e { flying = new })
taken_so named f c e new t s = record { whole = e; sits = s; takes = takes_so named f e new t }

-- a flight's finish leaves the other flights
stays_flying : (w : Means) (f : Flying) (n : ℕ) (p q : Stand) → After n (FlightStays w f) (FlightEnds w f) p q → q.desk.flying ≡ p.desk.flying
stays_flying w f n p q h = go n p q h
  where
    landing_flying : (r : _) (way : Option Back) (d : DeskView) → (landing r way d).flying ≡ d.flying
    landing_flying r None d = refl
    landing_flying r (Some way) d = refl

    go : (n : ℕ) (p q : Stand) → After n (FlightStays w f) (FlightEnds w f) p q → q.desk.flying ≡ p.desk.flying
    go zero p q h = ap (λ (d : DeskView). d.flying) h.desk ∙ landing_flying h.after _ _
    go (suc n) p q h = go n h.0 q h.2 ∙ ap (λ (d : DeskView). d.flying) h.1.desk

pub starts : (answers : List Answer) (named : Option ℕ) (a : Core) (d : DeskView) (most : ℕ) → Sits a d → KeepsPass a a → most ≡ length (flying_of named d.flying) → GoesOn answers named a a d d 0 most
starts answers named a d most s kept all = record { sits = s; kept = kept; all = all; stands = λ k h. h; weight = omega arith; done = λ near line k. record { gone = []; split = refl; counted = refl; calls = refl } }

-- a flight that was taken counts no more, and its request counts again
pub weighs : (named : Option ℕ) (f : Flying) (a c : Core) (d e g : DeskView) (new : List Flying) (n most : ℕ) (answers : List Answer) → GoesOn answers named a c d e n most → TakesFirst named f e.flying new → unended g ≤ unended (record e { flying = new }) + 1 → unended g ≤ unended d
weighs named f a c d e g new n most answers on t weight =
    let was : length e.flying ≡ length t.before + length (f ∷ t.after) = ap length t.was ∙ length-append t.before (f ∷ t.after) in
    let is : length new ≡ length t.before + length t.after = ap length t.is ∙ length-append t.before t.after in
    omega (arith, was, is, weight, on.weight)

-- one more is finished
pub goes_on : {T : Type 0} (result : Result T Halt) (x : T) (answers : List Answer) (named : Option ℕ) (f : Flying) (a c b : Core) (d e g : DeskView) (new : List Flying) (n most : ℕ) → GoesOn answers named a c d e n most → TakesFirst named f e.flying new
    → result ≡ Ok x → ((near : Near) (line : ℕ) → DoesFlight result (means near answers line) f c b (record e { flying = new }) g) → Leaves c b g → KeepsStand c b → unended g ≤ unended (record e { flying = new }) + 1 → GoesOn answers named a b d g (n + 1) most
goes_on result x answers named f a c b d e g new n most on t is does l stands weight = record {
  sits = l.sits;
  kept = kept_on a c b on.kept l.kept;
  all = on.all;
  stands = λ k s. stands k (on.stands k s);
  weight = weighs named f a c d e g new n most answers on t weight;
  done = λ near line k.
      let w = means near answers line in
      let so = on.done near line k in
      let h : (1 ≤ c.view.left) × (m : ℕ) × After m (FlightStays w f) (FlightEnds w f) (stand c (record e { flying = new }) k) (stand b g k) = subst (λ r. Does r ((1 ≤ c.view.left) × (m : ℕ) × After m (FlightStays w f) (FlightEnds w f) (stand c (record e { flying = new }) k) (stand b g k)) ((m : ℕ) × After m (FlightStays w f) (FlightFalls f) (stand c (record e { flying = new }) k) (stand b g k))) is (does near line k) in
      let taking : Taking f (After h.1 (FlightStays w f) (FlightEnds w f)) (stand c e k) (stand b g k) = record { desk = record e { flying = new }; takes = takes_so named f e new t; goes = h.2 } in
      let rest : flying_of named g.flying ≡ flying_of named new = ap (flying_of named) (stays_flying w f h.1 (stand c (record e { flying = new }) k) (stand b g k) h.2) in
      record {
        gone = so.gone ++ f ∷ [];
        split = so.split ∙ ap (λ (fs : List Flying). so.gone ++ fs) (left_so named f e.flying new t) ∙ sym (append_assoc so.gone (f ∷ []) (flying_of named new)) ∙ ap (λ (fs : List Flying). (so.gone ++ f ∷ []) ++ fs) (sym rest);
        counted = length-append so.gone (f ∷ []) ∙ omega (arith, so.counted);
        calls = subst (λ (cs : List DeskCall). CallsTo w cs (stand a d k) (stand b g k)) (map_more so.gone f) (call_more w (map finish so.gone) (finish f) (stand a d k) (stand c e k) (stand b g k) so.calls (record { enough = h.0; goes = (h.1, taking) }));
      };
}

-- there is one, as long as so many aren't finished
pub there_is_one : (answers : List Answer) (named : Option ℕ) (a c : Core) (d e : DeskView) (n most : ℕ) → GoesOn answers named a c d e n most → n < most → flying_of named e.flying ≡ [] → (near : Near) (line : ℕ) (k : KeeperView) → ⊥
there_is_one answers named a c d e n most on below hasnt near line k =
    let so = on.done near line k in
    let all : length (flying_of named d.flying) ≡ length so.gone + length (flying_of named e.flying) = ap length so.split ∙ length-append so.gone (flying_of named e.flying) in
    absurd (omega (arith, all, ap length hasnt, so.counted, on.all, below))

-- all are finished
pub ends : (answers : List Answer) (named : Option ℕ) (a c : Core) (d e : DeskView) (n most : ℕ) → GoesOn answers named a c d e n most → most ≤ n
    → (near : Near) (line : ℕ) (k : KeeperView) → CallsTo (means near answers line) (map finish (flying_of named d.flying)) (stand a d k) (stand c e k)
ends answers named a c d e n most on over near line k =
    let so = on.done near line k in
    let all : length (flying_of named d.flying) ≡ length so.gone + length (flying_of named e.flying) = ap length so.split ∙ length-append so.gone (flying_of named e.flying) in
    let rest : flying_of named e.flying ≡ [] = nil_from_length (flying_of named e.flying) (omega (arith, all, so.counted, on.all, over)) in
    let same : so.gone ≡ flying_of named d.flying = sym (so.split ∙ ap (λ (fs : List Flying). so.gone ++ fs) rest ∙ append-nil so.gone) in
    subst (λ (fs : List Flying). CallsTo (means near answers line) (map finish fs) (stand a d k) (stand c e k)) same so.calls

-- one falls for want of units, or memory ran out
pub stops : (U : Type 0) {T : Type 0} (result : Result T Halt) (why : Halt) (answers : List Answer) (named : Option ℕ) (f : Flying) (a c b : Core) (d e g : DeskView) (new : List Flying) (n most : ℕ) → GoesOn answers named a c d e n most → TakesFirst named f e.flying new
    → result ≡ Err why → ((near : Near) (line : ℕ) → DoesFlight result (means near answers line) f c b (record e { flying = new }) g)
    → (near : Near) (line : ℕ) (k : KeeperView) → Does {T = U} (Err why) (CallsTo (means near answers line) (map finish (flying_of named d.flying)) (stand a d k) (stand b g k)) (StopsTo (means near answers line) (map finish (flying_of named d.flying)) (stand a d k) (stand b g k))
stops U result halt.NoMemory answers named f a c b d e g new n most on t is does near line k = tt
stops U result halt.Spent answers named f a c b d e g new n most on t is does near line k =
    let w = means near answers line in
    let so = on.done near line k in
    let h : (m : ℕ) × After m (FlightStays w f) (FlightFalls f) (stand c (record e { flying = new }) k) (stand b g k) = subst (λ r. Does r ((1 ≤ c.view.left) × (m : ℕ) × After m (FlightStays w f) (FlightEnds w f) (stand c (record e { flying = new }) k) (stand b g k)) ((m : ℕ) × After m (FlightStays w f) (FlightFalls f) (stand c (record e { flying = new }) k) (stand b g k))) is (does near line k) in
    record {
      before = map finish so.gone;
      stopped = finish f;
      behind = map finish (flying_of named new);
      split = ap (map finish) (so.split ∙ ap (λ (fs : List Flying). so.gone ++ fs) (left_so named f e.flying new t)) ∙ map_split so.gone f (flying_of named new);
      mid = stand c e k;
      done = so.calls;
      stops = (h.0, record { desk = record e { flying = new }; takes = takes_so named f e new t; goes = h.1 });
    }

-- memory ran out at one
pub breaks : (U : Type 0) {T : Type 0} (result : Result T Halt) (why : Halt) (answers : List Answer) (named : Option ℕ) (f : Flying) (a c b : Core) (d e g : DeskView) (new : List Flying) (n most : ℕ) → GoesOn answers named a c d e n most → TakesFirst named f e.flying new
    → result ≡ Err why → ((near : Near) (line : ℕ) → BreaksFlight result (means near answers line) f c b (record e { flying = new }) g)
    → (near : Near) (line : ℕ) (k : KeeperView) → IfWant {T = U} (Err why) (BreaksTo (means near answers line) (map finish (flying_of named d.flying)) (stand a d k) (stand b g k))
breaks U result halt.Spent answers named f a c b d e g new n most on t is broke near line k = tt
breaks U result halt.NoMemory answers named f a c b d e g new n most on t is broke near line k =
    let w = means near answers line in
    let so = on.done near line k in
    let h : (m : ℕ) × After m (FlightStays w f) (FlightDrops f) (stand c (record e { flying = new }) k) (stand b g k) = subst (λ r. IfWant r ((m : ℕ) × After m (FlightStays w f) (FlightDrops f) (stand c (record e { flying = new }) k) (stand b g k))) is (broke near line k) in
    record {
      before = map finish so.gone;
      broken = finish f;
      behind = map finish (flying_of named new);
      split = ap (map finish) (so.split ∙ ap (λ (fs : List Flying). so.gone ++ fs) (left_so named f e.flying new t)) ∙ map_split so.gone f (flying_of named new);
      mid = stand c e k;
      done = so.calls;
      breaks = (h.0, record { desk = record e { flying = new }; takes = takes_so named f e new t; goes = h.1 });
    }

-- there was none to take, which can't be
pub goes_still : (answers : List Answer) (named : Option ℕ) (a c : Core) (d e : DeskView) (new : List Flying) (n most : ℕ) → GoesOn answers named a c d e n most → n < most → flying_of named e.flying ≡ [] → new ≡ e.flying → GoesOn answers named a c d (record e { flying = new }) (n + 1) most
goes_still answers named a c d e new n most on below hasnt is = record {
  sits = subst (λ (fs : List Flying). Sits c (record e { flying = fs })) (sym is) on.sits;
  kept = on.kept;
  all = on.all;
  stands = on.stands;
  weight = let same : length new ≡ length e.flying = ap length is in omega (arith, same, on.weight);
  done = λ near line k. absurd (there_is_one answers named a c d e n most on below hasnt near line k);
}
