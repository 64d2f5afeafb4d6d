-- The text with or without the notes is the text of the run with or without them.
use Rattle.std.proofs.Common.{◌≡◌, ℕ, ◌+◌, ◌<◌, Bool, true, false, Option, List, [], ◌∷◌, ◌++◌, length, map, filter, take, get_or, codes, refl, sym, ◌∙◌, ap, append-nil, arith}
use Rattle.std.specs.Prelude.{if◌then◌else◌}
use Rattle.std.specs.List.{flat_map, enumerate_from}
use Rattle.std.proofs.lemmas.List.{take_more, length-take-le}
use Rattle.std.proofs.lemmas.List.Concat.{flat_map-append}
use Rattle.std.proofs.lemmas.List.Folds.{flat_map-map}
use Rattle.mp_words.specs.declared.entry.RowEntry.{RowEntry}
use Rattle.mp_words.specs.Request.{asked_of}
use Rattle.mp_topology.specs.declared.topology.Topology.{Topology}
use Rattle.mp_record.specs.declared.run.Run.{Run}
use Rattle.mp_record.specs.NotesView.{NotesView}
use Rattle.mp_record.specs.RunView.{view_of, noted, events_of, is_plain, is_order}
use Rattle.mp_line.specs.Words.{one_number}
use Rattle.mp_record.specs.EventText.{event_line, events_text}
use Rattle.mp_record.specs.RunText.{run_text, row_line, rows_text, is_written, keep_line, lane_text, lane_word, request_line}
use Rattle.mp_record.specs.NotedText.{written_rows, noted_lane, noted_text}

-- what passes a test is written, and nothing of the rest
written : {X : Type 0} (p : X → Bool) (f : X → List ℕ) (xs : List X) → flat_map (λ x. if p x then f x else []) xs ≡ flat_map f (filter p xs)
written p f [] = refl
written p f (x ∷ xs) = elim (p x) as (λ on. (if on then f x else []) ++ flat_map (λ y. if p y then f y else []) xs ≡ flat_map f (if on then x ∷ filter p xs else filter p xs)) [ true ↦ ap (λ rest. f x ++ rest) (written p f xs) | false ↦ written p f xs ]

rows-written : (t : Topology) (rows : List (List RowEntry)) → flat_map (written_rows t) rows ≡ flat_map (rows_text t) rows
rows-written t [] = refl
rows-written t (entries ∷ rows) =
    ap (λ first. first ++ flat_map (written_rows t) rows) (written is_written (row_line t) entries) ∙ ap (λ rest. rows_text t entries ++ rest) (rows-written t rows)

-- the blocks of lanes with all their events, and with those that pass
lanes-noted : (keeper : Option ℕ) (n : ℕ) (lanes : List NotesView) → flat_map (noted_lane true keeper) (enumerate_from n lanes) ≡ flat_map (lane_text keeper) (enumerate_from n (map events_of lanes))
lanes-noted keeper n [] = refl
lanes-noted keeper n (lane ∷ lanes) = ap (λ rest. noted_lane true keeper (n, lane) ++ rest) (lanes-noted keeper (n + 1) lanes)

lanes-plain : (keeper : Option ℕ) (n : ℕ) (lanes : List NotesView) → flat_map (noted_lane false keeper) (enumerate_from n lanes) ≡ flat_map (lane_text keeper) (enumerate_from n (map (filter is_plain) (map events_of lanes)))
lanes-plain keeper n [] = refl
lanes-plain keeper n (lane ∷ lanes) =
    let head = one_number (lane_word keeper n) n ++ codes "\n" in
    ap (λ events. (head ++ events) ++ flat_map (noted_lane false keeper) (enumerate_from (n + 1) lanes)) (written is_plain event_line lane.events)
    ∙ ap (λ rest. (head ++ events_text (filter is_plain lane.events)) ++ rest) (lanes-plain keeper (n + 1) lanes)

-- the text with the notes or without
pub text-noted : (notes : Bool) (t : Topology) (run : Run) → noted_text notes t run ≡ run_text t (noted notes (view_of run))
text-noted true t run =
    rw (rows-written t run.rows, lanes-noted run.keeper 0 run.lanes, flat_map-map (request_line t run.rows) asked_of run.requests) refl
text-noted false t run =
    rw (rows-written t run.rows, written is_order keep_line run.keeping, lanes-plain run.keeper 0 run.lanes, written is_plain event_line run.drain.events, flat_map-map (request_line t run.rows) asked_of run.requests) refl

enumerate_from-append : {X : Type 0} (n : ℕ) (xs : List X) (x : X) → enumerate_from n (xs ++ x ∷ []) ≡ enumerate_from n xs ++ (n + length xs, x) ∷ []
enumerate_from-append n [] x = let e : n + 0 ≡ n = omega arith in rw e refl
enumerate_from-append n (y ∷ xs) x =
    let e : n + length (y ∷ xs) ≡ n + 1 + length xs = omega arith in
    rw e (ap (λ rest. (n, y) ∷ rest) (enumerate_from-append (n + 1) xs x))

-- one more lane
pub lanes-more : {X : Type 0} (f : ℕ × X → List ℕ) (xs : List X) (i : ℕ) (x : X) → i < length xs → x ≡ get_or xs i x → flat_map f (enumerate_from 0 (take (i + 1) xs)) ≡ flat_map f (enumerate_from 0 (take i xs)) ++ f (i, x)
lanes-more f xs i x h is =
    let len : 0 + length (take i xs) ≡ i = omega (arith, length-take-le i xs (omega arith)) in
    let more : take (i + 1) xs ≡ take i xs ++ x ∷ [] = take_more xs i x h ∙ ap (λ v. take i xs ++ v ∷ []) (sym is) in
    rw (more, enumerate_from-append 0 (take i xs) x, len)
    (flat_map-append f (enumerate_from 0 (take i xs)) ((i, x) ∷ []) ∙ ap (λ rest. flat_map f (enumerate_from 0 (take i xs)) ++ rest) (append-nil (f (i, x))))
