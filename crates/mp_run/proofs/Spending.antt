-- A spent lane is the outcome's.
use Rattle.std.proofs.Common.{◌≡◌, ◌⊎◌, inl, inr, ℕ, ◌≤◌, nat_le, Bool, true, false, List, length, Option, Some, None, Result, Ok, Err, refl, ap, subst, arith, if◌then◌else◌}
use Rattle.mp_io.specs.Files.{Files, file_at}
use Rattle.mp_topology.specs.declared.errors.TopologyError.{TopologyError}
use Rattle.mp_topology.specs.declared.topology.Topology.{Topology}
use Rattle.mp_topology.specs.Topology.{topology_in}
use Rattle.mp_page.specs.declared.boxes.BoxError.{BoxError}
use Rattle.mp_page.specs.Boxes.{boxes_in}
use Rattle.mp_page.specs.Text.{pages_text}
use Rattle.mp_record.specs.RunView.{RunView}
use Rattle.mp_script.specs.declared.errors.ScriptError.{ScriptError}
use Rattle.mp_script.specs.declared.script.Script.{Script}
use Rattle.mp_script.specs.declared.script.World.{World}
use Rattle.mp_script.specs.Script.{script_in}
use Rattle.mp_legal.specs.Units.{serial_over}
use Rattle.mp_run.specs.declared.status.Status.{Status}
use Rattle.mp_run.specs.declared.status.Status.TheVariants as end
use Rattle.mp_run.specs.Accepted.{Holds, SpendsRun, Spends, IsUnlessFree}
use Rattle.mp_run.specs.Forms.{Names, Form, serial, pages, help, version}
use Rattle.mp_run.specs.Outcome.{◌>>=◌, read_found, read_of, topology_or, fits_in, boxes_or, script_or, text_or, serial_text, serial_for, serial_in, pages_for, pages_in, for_form, Answers}
use Rattle.mp_run.proofs.Accepting.{serial_asked}
use Rattle.mp_run.proofs.TopLaws.{bind_err, unless_free}

-- ---- a spent lane is answered

outcome_spends : (files : Files) (form : Option Form) (lane : ℕ) → Spends files form lane → for_form files form ≡ Err (end.Spent lane)
outcome_spends files None lane s = absurd s
outcome_spends files (Some (serial names)) lane s = serial_asked files names s.read (Err lane) s.spent
outcome_spends files (Some (pages name max)) lane s = absurd s
outcome_spends files (Some help) lane s = absurd s
outcome_spends files (Some version) lane s = absurd s

pub spent_told : (files : Files) (form : Option Form) (old new : Option (List ℕ)) (status : Status) (lane : ℕ) → Answers (for_form files form) old new status → Spends files form lane → IsUnlessFree (end.Spent lane) status
spent_told files form old new status lane told s = unless_free (for_form files form) (end.Spent lane) old new status (outcome_spends files form lane s) told

-- ---- and back

abbrev NeverSpent : {A : Type 0} → Result A Status → Type 0
NeverSpent r = (lane : ℕ) → r ≡ Err (end.Spent lane) → ⊥

topology_unspent : {A : Type 0} (r : Result A TopologyError) → NeverSpent (topology_or r)
topology_unspent (Ok t) lane h = cc
topology_unspent (Err e) lane h = cc

boxes_unspent : (r : Result (List (List ℕ)) BoxError) → NeverSpent (boxes_or r)
boxes_unspent (Ok t) lane h = cc
boxes_unspent (Err e) lane h = cc

script_unspent : (r : Result Script ScriptError) → NeverSpent (script_or r)
script_unspent (Ok t) lane h = cc
script_unspent (Err e) lane h = cc

bytes_unspent : (i : ℕ) (b : Bool) (bytes : List ℕ) → NeverSpent (if b then Ok bytes else Err (end.TooLong i))
bytes_unspent i true bytes lane h = cc
bytes_unspent i false bytes lane h = cc

found_unspent : (i : ℕ) (found : Option (List ℕ)) → NeverSpent (read_found i found)
found_unspent i None lane h = cc
found_unspent i (Some bytes) lane h = bytes_unspent i (nat_le (length bytes) 16777216) bytes lane h

topology_ok : {A : Type 0} (r : Result A TopologyError) (x : A) → topology_or r ≡ Ok x → r ≡ Ok x
topology_ok (Ok t) x h = ap Ok cc
topology_ok (Err e) x h = absurd cc

boxes_ok : (r : Result (List (List ℕ)) BoxError) (x : List (List ℕ)) → boxes_or r ≡ Ok x → r ≡ Ok x
boxes_ok (Ok t) x h = ap Ok cc
boxes_ok (Err e) x h = absurd cc

script_ok : (r : Result Script ScriptError) (x : Script) → script_or r ≡ Ok x → r ≡ Ok x
script_ok (Ok t) x h = ap Ok cc
script_ok (Err e) x h = absurd cc

text_spent : (world : World) (r : Result RunView ℕ) (lane : ℕ) → text_or world r ≡ Err (end.Spent lane) → r ≡ Err lane
text_spent world (Ok run) lane h = absurd cc
text_spent world (Err other) lane h = ap Err cc

within : (i : ℕ) (b : Bool) (bytes x : List ℕ) → nat_le (length bytes) 16777216 ≡ b → (if b then Ok bytes else Err (end.TooLong i)) ≡ Ok x → (bytes ≡ x) × (length bytes ≤ 16777216)
within i true bytes x is h = (cc, grind (arith, is))
within i false bytes x is h = absurd cc

found_holds : (i : ℕ) (found : Option (List ℕ)) (x : List ℕ) → read_found i found ≡ Ok x → (found ≡ Some x) × (length x ≤ 16777216)
found_holds i None x h = absurd cc
found_holds i (Some bytes) x h =
    let both = within i (nat_le (length bytes) 16777216) bytes x refl h in
    (ap Some both.0, subst (λ b. length b ≤ 16777216) both.0 both.1)

holds : (files : Files) (i : ℕ) (name x : List ℕ) → read_of files i name ≡ Ok x → Holds files name
holds files i name x h = let both = found_holds i (file_at files name) x h in record { bytes = x; there = both.0; within = both.1 }

-- what bytes say whose run is spent
record SaysSpent (t p s : List ℕ) (lane : ℕ) : Type 0 where
  topology : Topology
  boxes : List (List ℕ)
  script : Script
  topology_read : topology_in t ≡ Ok topology
  boxes_read : boxes_in p ≡ Ok boxes
  fit : fits_in topology (length boxes) ≡ Ok tt
  script_read : script_in topology (length boxes) s ≡ Ok script
  spent : serial_over 2097152 (record { topology = topology; pages = boxes }) script ≡ Err lane

bytes_spend : (t p s : List ℕ) (lane : ℕ) → serial_for t p s ≡ Err (end.Spent lane) → SaysSpent t p s lane
unfolding serial_for serial_text
bytes_spend t p s lane h = first (bind_err (topology_or (topology_in t)) _ (end.Spent lane) h)
  where
    last : (topology : Topology) (boxes : List (List ℕ)) → topology_in t ≡ Ok topology → boxes_in p ≡ Ok boxes → fits_in topology (length boxes) ≡ Ok tt
        → ((script_or (script_in topology (length boxes) s) ≡ Err (end.Spent lane)) ⊎ ((script : Script) × (script_or (script_in topology (length boxes) s) ≡ Ok script) × (text_or (record { topology = topology; pages = boxes }) (serial_over 2097152 (record { topology = topology; pages = boxes }) script) ≡ Err (end.Spent lane))))
        → SaysSpent t p s lane
    last topology boxes is are fit (inl e) = absurd (script_unspent (script_in topology (length boxes) s) lane e)
    last topology boxes is are fit (inr e) = record {
      topology = topology;
      boxes = boxes;
      script = e.0;
      topology_read = is;
      boxes_read = are;
      fit = fit;
      script_read = script_ok (script_in topology (length boxes) s) e.0 e.1;
      spent = text_spent (record { topology = topology; pages = boxes }) (serial_over 2097152 (record { topology = topology; pages = boxes }) e.0) lane e.2;
    }

    third : (topology : Topology) (boxes : List (List ℕ)) → topology_in t ≡ Ok topology → boxes_in p ≡ Ok boxes
        → ((topology_or (fits_in topology (length boxes)) ≡ Err (end.Spent lane)) ⊎ ((u : Unit {0}) × (topology_or (fits_in topology (length boxes)) ≡ Ok u) × ((script_or (script_in topology (length boxes) s) >>= (λ script. text_or (record { topology = topology; pages = boxes }) (serial_over 2097152 (record { topology = topology; pages = boxes }) script))) ≡ Err (end.Spent lane))))
        → SaysSpent t p s lane
    third topology boxes is are (inl e) = absurd (topology_unspent (fits_in topology (length boxes)) lane e)
    third topology boxes is are (inr e) =
        last topology boxes is are (topology_ok (fits_in topology (length boxes)) tt e.1) (bind_err (script_or (script_in topology (length boxes) s)) _ (end.Spent lane) e.2)

    second : (topology : Topology) → topology_in t ≡ Ok topology
        → ((boxes_or (boxes_in p) ≡ Err (end.Spent lane)) ⊎ ((boxes : List (List ℕ)) × (boxes_or (boxes_in p) ≡ Ok boxes) × ((topology_or (fits_in topology (length boxes)) >>= (λ u. script_or (script_in topology (length boxes) s) >>= (λ script. text_or (record { topology = topology; pages = boxes }) (serial_over 2097152 (record { topology = topology; pages = boxes }) script)))) ≡ Err (end.Spent lane))))
        → SaysSpent t p s lane
    second topology is (inl e) = absurd (boxes_unspent (boxes_in p) lane e)
    second topology is (inr e) = third topology e.0 is (boxes_ok (boxes_in p) e.0 e.1) (bind_err (topology_or (fits_in topology (length e.0))) _ (end.Spent lane) e.2)

    first : ((topology_or (topology_in t) ≡ Err (end.Spent lane)) ⊎ ((topology : Topology) × (topology_or (topology_in t) ≡ Ok topology) × ((boxes_or (boxes_in p) >>= (λ boxes. topology_or (fits_in topology (length boxes)) >>= (λ u. script_or (script_in topology (length boxes) s) >>= (λ script. text_or (record { topology = topology; pages = boxes }) (serial_over 2097152 (record { topology = topology; pages = boxes }) script))))) ≡ Err (end.Spent lane))))
        → SaysSpent t p s lane
    first (inl e) = absurd (topology_unspent (topology_in t) lane e)
    first (inr e) = second e.0 (topology_ok (topology_in t) e.0 e.1) (bind_err (boxes_or (boxes_in p)) _ (end.Spent lane) e.2)

-- the files of which the bytes say it
spends_of : (files : Files) (names : Names) (lane : ℕ) (t p s : List ℕ) → read_of files 1 names.topology ≡ Ok t → read_of files 2 names.boxes ≡ Ok p → read_of files 3 names.script ≡ Ok s
    → SaysSpent t p s lane → SpendsRun files names lane
unfolding holds
spends_of files names lane t p s first second third says = record {
  read = record {
    topology_file = holds files 1 names.topology t first;
    boxes_file = holds files 2 names.boxes p second;
    script_file = holds files 3 names.script s third;
    topology = says.topology;
    boxes = says.boxes;
    script = says.script;
    topology_read = says.topology_read;
    boxes_read = says.boxes_read;
    fit = says.fit;
    script_read = says.script_read;
  };
  spent = says.spent;
}

serial_spends : (files : Files) (names : Names) (lane : ℕ) → serial_in files names ≡ Err (end.Spent lane) → SpendsRun files names lane
unfolding serial_in
serial_spends files names lane h = first (bind_err (read_of files 1 names.topology) _ (end.Spent lane) h)
  where
    third : (t p : List ℕ) → read_of files 1 names.topology ≡ Ok t → read_of files 2 names.boxes ≡ Ok p
        → ((read_of files 3 names.script ≡ Err (end.Spent lane)) ⊎ ((s : List ℕ) × (read_of files 3 names.script ≡ Ok s) × (serial_for t p s ≡ Err (end.Spent lane))))
        → SpendsRun files names lane
    third t p one two (inl e) = absurd (found_unspent 3 (file_at files names.script) lane e)
    third t p one two (inr e) = spends_of files names lane t p e.0 one two e.1 (bytes_spend t p e.0 lane e.2)

    second : (t : List ℕ) → read_of files 1 names.topology ≡ Ok t
        → ((read_of files 2 names.boxes ≡ Err (end.Spent lane)) ⊎ ((p : List ℕ) × (read_of files 2 names.boxes ≡ Ok p) × ((read_of files 3 names.script >>= (λ s. serial_for t p s)) ≡ Err (end.Spent lane))))
        → SpendsRun files names lane
    second t one (inl e) = absurd (found_unspent 2 (file_at files names.boxes) lane e)
    second t one (inr e) = third t e.0 one e.1 (bind_err (read_of files 3 names.script) _ (end.Spent lane) e.2)

    first : ((read_of files 1 names.topology ≡ Err (end.Spent lane)) ⊎ ((t : List ℕ) × (read_of files 1 names.topology ≡ Ok t) × ((read_of files 2 names.boxes >>= (λ p. read_of files 3 names.script >>= (λ s. serial_for t p s))) ≡ Err (end.Spent lane))))
        → SpendsRun files names lane
    first (inl e) = absurd (found_unspent 1 (file_at files names.topology) lane e)
    first (inr e) = second e.0 e.1 (bind_err (read_of files 2 names.boxes) _ (end.Spent lane) e.2)

pages_unspent : (files : Files) (name : List ℕ) (max : ℕ) → NeverSpent (pages_in files name max)
unfolding pages_in pages_for
pages_unspent files name max lane h = first (bind_err (read_of files 1 name) _ (end.Spent lane) h)
  where
    told : (p : List ℕ) → ((boxes_or (boxes_in p) ≡ Err (end.Spent lane)) ⊎ ((boxes : List (List ℕ)) × (boxes_or (boxes_in p) ≡ Ok boxes) × (Ok (pages_text max boxes) ≡ Err (end.Spent lane)))) → ⊥
    told p (inl e) = boxes_unspent (boxes_in p) lane e
    told p (inr e) = absurd cc

    first : ((read_of files 1 name ≡ Err (end.Spent lane)) ⊎ ((p : List ℕ) × (read_of files 1 name ≡ Ok p) × (pages_for p max ≡ Err (end.Spent lane)))) → ⊥
    first (inl e) = found_unspent 1 (file_at files name) lane e
    first (inr e) = told e.0 (bind_err (boxes_or (boxes_in e.0)) _ (end.Spent lane) e.2)

outcome_spent : (files : Files) (form : Option Form) (lane : ℕ) → for_form files form ≡ Err (end.Spent lane) → Spends files form lane
outcome_spent files None lane h = cc
outcome_spent files (Some (serial names)) lane h = serial_spends files names lane h
outcome_spent files (Some (pages name max)) lane h = pages_unspent files name max lane h
outcome_spent files (Some help) lane h = cc
outcome_spent files (Some version) lane h = cc

-- a status that is a spent lane comes of the outcome
pub told_spent : (files : Files) (form : Option Form) (old new : Option (List ℕ)) (status : Status) (lane : ℕ) → Answers (for_form files form) old new status → status ≡ end.Spent lane → Spends files form lane
told_spent files form old new status lane told is = outcome_spent files form lane (rw is at told)
