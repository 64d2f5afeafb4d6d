-- What follows from the status and the text of the top call being those of the outcome.
use Rattle.std.proofs.Common.{◌≡◌, ◌⊎◌, inl, inr, ℕ, ◌<◌, nat_le, Bool, true, false, List, length, Option, Some, None, Result, Ok, Err, refl, ap, arith, if◌then◌else◌}
use Rattle.mp_io.specs.Files.{Files, file_at}
use Rattle.mp_topology.specs.declared.errors.TopologyError.{TopologyError}
use Rattle.mp_topology.specs.Topology.{topology_in}
use Rattle.mp_page.specs.declared.boxes.BoxError.{BoxError}
use Rattle.mp_page.specs.Boxes.{boxes_in}
use Rattle.mp_page.specs.Text.{pages_text}
use Rattle.mp_script.specs.declared.errors.ScriptError.{ScriptError}
use Rattle.mp_script.specs.declared.script.Script.{Script}
use Rattle.mp_script.specs.Script.{script_in}
use Rattle.mp_run.specs.declared.status.Status.{Status}
use Rattle.mp_run.specs.declared.status.Status.TheVariants as end
use Rattle.mp_run.specs.Accepted.{IsUnlessFree}
use Rattle.mp_run.specs.Forms.{Names, Form, serial, pages, help, version}
use Rattle.mp_record.specs.RunView.{RunView}
use Rattle.mp_script.specs.declared.script.World.{World}
use Rattle.mp_legal.specs.Units.{serial_over}
use Rattle.mp_run.specs.Outcome.{◌>>=◌, read_found, read_of, topology_or, fits_in, boxes_or, script_or, text_or, serial_text, serial_for, serial_in, pages_for, pages_in, for_form, Answers}
use Rattle.mp_run.specs.TooLong.{IsLong, IsLongOf, IsTooLong}

-- ---- a refusal, and what comes before it

pub bind_err : {A B : Type 0} (r : Result A Status) (f : A → Result B Status) (e : Status) → (r >>= f) ≡ Err e
    → (r ≡ Err e) ⊎ ((x : A) × (r ≡ Ok x) × (f x ≡ Err e))
bind_err (Ok x) f e h = inr (x, refl, h)
bind_err (Err s) f e h = inl (ap Err cc)

abbrev NeverLong : {A : Type 0} → Result A Status → Type 0
NeverLong r = (i : ℕ) → r ≡ Err (end.TooLong i) → ⊥

topology_short : {A : Type 0} (r : Result A TopologyError) → NeverLong (topology_or r)
topology_short (Ok t) i h = cc
topology_short (Err e) i h = cc

boxes_short : (r : Result (List (List ℕ)) BoxError) → NeverLong (boxes_or r)
boxes_short (Ok t) i h = cc
boxes_short (Err e) i h = cc

script_short : (r : Result Script ScriptError) → NeverLong (script_or r)
script_short (Ok t) i h = cc
script_short (Err e) i h = cc

short_bind : {A B : Type 0} (r : Result A Status) (f : A → Result B Status) → NeverLong r → ((x : A) → NeverLong (f x)) → NeverLong (r >>= f)
short_bind (Ok x) f first next i h = next x i h
short_bind (Err e) f first next i h = first i (ap Err cc)

ok_short : {A : Type 0} (x : A) → NeverLong (Ok x)
ok_short x i h = cc

text_short : (world : World) (r : Result RunView ℕ) → NeverLong (text_or world r)
text_short world (Ok run) i h = cc
text_short world (Err lane) i h = cc

serial_short : (t p s : List ℕ) → NeverLong (serial_for t p s)
unfolding serial_for serial_text
serial_short t p s =
    short_bind (topology_or (topology_in t)) _ (topology_short (topology_in t)) (λ topology.
    short_bind (boxes_or (boxes_in p)) _ (boxes_short (boxes_in p)) (λ boxes.
    short_bind (topology_or (fits_in topology (length boxes))) _ (topology_short (fits_in topology (length boxes))) (λ u.
    short_bind (script_or (script_in topology (length boxes) s)) _ (script_short (script_in topology (length boxes) s)) (λ script.
    text_short (record { topology = topology; pages = boxes }) (serial_over 2097152 (record { topology = topology; pages = boxes }) script)))))

pages_short : (p : List ℕ) (max : ℕ) → NeverLong (pages_for p max)
unfolding pages_for
pages_short p max =
    short_bind (boxes_or (boxes_in p)) _ (boxes_short (boxes_in p)) (λ boxes. ok_short (pages_text max boxes))

-- ---- a file that is too long

bytes_long : (i j : ℕ) (b : Bool) (bytes : List ℕ) → nat_le (length bytes) 16777216 ≡ b → (if b then Ok bytes else Err (end.TooLong i)) ≡ Err (end.TooLong j)
    → (j ≡ i) × (16777216 < length bytes)
bytes_long i j true bytes is h = absurd cc
bytes_long i j false bytes is h = (cc, grind (arith, is))

found_long : (i j : ℕ) (found : Option (List ℕ)) → read_found i found ≡ Err (end.TooLong j)
    → (j ≡ i) × ((bytes : List ℕ) × (found ≡ Some bytes) × (16777216 < length bytes))
found_long i j None h = absurd cc
found_long i j (Some bytes) h = let both = bytes_long i j (nat_le (length bytes) 16777216) bytes refl h in (both.0, (bytes, refl, both.1))

serial_long : (files : Files) (names : Names) (i : ℕ) → serial_in files names ≡ Err (end.TooLong i) → IsLongOf files names i
unfolding serial_in
serial_long files names i h = first (bind_err (read_of files 1 names.topology) _ (end.TooLong i) h)
  where
    third : {t p : List ℕ} → read_of files 1 names.topology ≡ Ok t → read_of files 2 names.boxes ≡ Ok p
        → ((read_of files 3 names.script ≡ Err (end.TooLong i)) ⊎ ((s : List ℕ) × (read_of files 3 names.script ≡ Ok s) × (serial_for t p s ≡ Err (end.TooLong i))))
        → IsLongOf files names i
    third {t} {p} first second (inl e) = let long = found_long 3 i (file_at files names.script) e in inr (inr (long.0, (t, first), (p, second), long.1))
    third {t} {p} first second (inr e) = absurd (serial_short t p e.0 i e.2)

    second : {t : List ℕ} → read_of files 1 names.topology ≡ Ok t
        → ((read_of files 2 names.boxes ≡ Err (end.TooLong i)) ⊎ ((p : List ℕ) × (read_of files 2 names.boxes ≡ Ok p) × ((read_of files 3 names.script >>= (λ s. serial_for t p s)) ≡ Err (end.TooLong i))))
        → IsLongOf files names i
    second {t} first (inl e) = let long = found_long 2 i (file_at files names.boxes) e in inr (inl (long.0, (t, first), long.1))
    second {t} first (inr e) = third first e.1 (bind_err (read_of files 3 names.script) _ (end.TooLong i) e.2)

    first : ((read_of files 1 names.topology ≡ Err (end.TooLong i)) ⊎ ((t : List ℕ) × (read_of files 1 names.topology ≡ Ok t) × ((read_of files 2 names.boxes >>= (λ p. read_of files 3 names.script >>= (λ s. serial_for t p s))) ≡ Err (end.TooLong i))))
        → IsLongOf files names i
    first (inl e) = let long = found_long 1 i (file_at files names.topology) e in inl (long.0, long.1)
    first (inr e) = second e.1 (bind_err (read_of files 2 names.boxes) _ (end.TooLong i) e.2)

pages_long : (files : Files) (name : List ℕ) (max i : ℕ) → pages_in files name max ≡ Err (end.TooLong i) → (i ≡ 1) × IsLong files name
unfolding pages_in
pages_long files name max i h = first (bind_err (read_of files 1 name) _ (end.TooLong i) h)
  where
    first : ((read_of files 1 name ≡ Err (end.TooLong i)) ⊎ ((p : List ℕ) × (read_of files 1 name ≡ Ok p) × (pages_for p max ≡ Err (end.TooLong i)))) → (i ≡ 1) × IsLong files name
    first (inl e) = found_long 1 i (file_at files name) e
    first (inr e) = absurd (pages_short e.0 max i e.2)

outcome_long : (files : Files) (form : Option Form) (i : ℕ) → for_form files form ≡ Err (end.TooLong i) → IsTooLong files form i
outcome_long files None i h = cc
outcome_long files (Some (serial names)) i h = serial_long files names i h
outcome_long files (Some (pages name max)) i h = pages_long files name max i h
outcome_long files (Some help) i h = cc
outcome_long files (Some version) i h = cc

-- a status that is a file's length comes of the outcome
pub told_long : (files : Files) (form : Option Form) (old new : Option (List ℕ)) (status : Status) (i : ℕ) → Answers (for_form files form) old new status → status ≡ end.TooLong i → IsTooLong files form i
told_long files form old new status i told is = outcome_long files form i (rw is at told)

-- ---- and back

long_found : (i : ℕ) (found : Option (List ℕ)) (bytes : List ℕ) → found ≡ Some bytes → 16777216 < length bytes → read_found i found ≡ Err (end.TooLong i)
long_found i found bytes is more = let b : nat_le (length bytes) 16777216 ≡ false = grind (arith, more) in rw (is, b) refl

serial_is_long : (files : Files) (names : Names) (i : ℕ) → IsLongOf files names i → serial_in files names ≡ Err (end.TooLong i)
unfolding serial_in
serial_is_long files names i (inl long) = let r : read_of files 1 names.topology ≡ Err (end.TooLong 1) = long_found 1 (file_at files names.topology) long.1.0 long.1.1 long.1.2 in rw (long.0, r) refl
serial_is_long files names i (inr (inl long)) = let r : read_of files 2 names.boxes ≡ Err (end.TooLong 2) = long_found 2 (file_at files names.boxes) long.2.0 long.2.1 long.2.2 in rw (long.0, long.1.1, r) refl
serial_is_long files names i (inr (inr long)) = let r : read_of files 3 names.script ≡ Err (end.TooLong 3) = long_found 3 (file_at files names.script) long.3.0 long.3.1 long.3.2 in rw (long.0, long.1.1, long.2.1, r) refl

pages_is_long : (files : Files) (name : List ℕ) (max i : ℕ) → (i ≡ 1) × IsLong files name → pages_in files name max ≡ Err (end.TooLong i)
unfolding pages_in
pages_is_long files name max i long = let r : read_of files 1 name ≡ Err (end.TooLong 1) = long_found 1 (file_at files name) long.1.0 long.1.1 long.1.2 in rw (r, long.0) refl

outcome_is_long : (files : Files) (form : Option Form) (i : ℕ) → IsTooLong files form i → for_form files form ≡ Err (end.TooLong i)
outcome_is_long files None i long = absurd long
outcome_is_long files (Some (serial names)) i long = serial_is_long files names i long
outcome_is_long files (Some (pages name max)) i long = pages_is_long files name max i long
outcome_is_long files (Some help) i long = absurd long
outcome_is_long files (Some version) i long = absurd long

pub unless_free : (read : Result (List ℕ) Status) (wanted : Status) (old new : Option (List ℕ)) (status : Status) → read ≡ Err wanted → Answers read old new status → IsUnlessFree wanted status
unless_free read wanted old new end.Ok is told = absurd cc
unless_free read wanted old new end.WriteFault is told = absurd cc
unless_free read wanted old new end.NoMemory is told = tt
unless_free read wanted old new (end.ReadFault i) is told = tt
unless_free read wanted old new end.Usage is told = cc
unless_free read wanted old new (end.Topology e) is told = cc
unless_free read wanted old new (end.Script e) is told = cc
unless_free read wanted old new (end.Boxes e) is told = cc
unless_free read wanted old new (end.TooLong i) is told = cc
unless_free read wanted old new (end.Spent lane) is told = cc

pub long_told : (files : Files) (form : Option Form) (old new : Option (List ℕ)) (status : Status) (i : ℕ) → Answers (for_form files form) old new status → IsTooLong files form i → IsUnlessFree (end.TooLong i) status
long_told files form old new status i told long = unless_free (for_form files form) (end.TooLong i) old new status (outcome_is_long files form i long) told
