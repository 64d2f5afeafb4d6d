-- A page that bytes are can be written.
use Rattle.std.proofs.Common.{◌≡◌, ℕ, ◌+◌, ◌*◌, ◌-◌, ◌≤◌, List, [], ◌∷◌, length, drop, arith, length-drop, length-append, Result, Ok, Err}
use Rattle.std.specs.Prelude.{IfOk}
use Rattle.std.specs.List.{flat_map, AllByRecursion}
use Rattle.std.proofs.lemmas.List.Concat.{flat_map-cons}
use Rattle.mp_page.specs.declared.page.Group.{Group}
use Rattle.mp_page.specs.declared.page.Page.{Page}
use Rattle.mp_page.specs.declared.page.PageError.{PageError}
use Rattle.mp_page.specs.Grammar.{group_size, AreGroups, IsPage}
use Rattle.mp_page.specs.Written.{word, zeros, group_bytes, page_bytes, CanWrite, CanWritePage}
use Rattle.mp_page.proofs.Written.{length-word, length-group, length-zeros6}

can_each : (max : ℕ) (rest : List ℕ) (groups : List Group) → AreGroups max rest groups → AllByRecursion CanWrite groups
can_each max rest [] are = tt
can_each max rest (group ∷ groups) are =
    (record { not_zero = are.0.not_zero; state_from = are.0.state_from; state_to = are.0.state_to }, can_each max (drop (group_size group) rest) groups are.1)

no_longer : (max : ℕ) (rest : List ℕ) (groups : List Group) → AreGroups max rest groups → (length (flat_map group_bytes groups) ≤ length rest) × (32 * length groups ≤ length rest)
no_longer max rest [] are = (omega arith, omega arith)
no_longer max rest (group ∷ groups) are =
    let more = no_longer max (drop (group_size group) rest) groups are.1 in
    let after : length (drop (group_size group) rest) ≡ length rest - group_size group = length-drop (group_size group) rest in
    (rw (flat_map-cons group_bytes group groups, length-append) (omega (arith, length-group group, more.0, after, are.0.list)), omega (arith, more.1, after, are.0.list))

can_write : (max : ℕ) (bytes : List ℕ) (page : Page) → IsPage max bytes page → length bytes ≤ 65536 → CanWritePage page
can_write max bytes page is short =
    let fits = no_longer max (drop 16 bytes) page.groups is.groups in
    let after : length (drop 16 bytes) ≡ length bytes - 16 = length-drop 16 bytes in
    let len : length (page_bytes page) ≡ length (word 8 page.changes) + (length (word 2 (length page.groups)) + (length (zeros 6) + length (flat_map group_bytes page.groups))) = simp length-append in
    record {
      groups = can_each max (drop 16 bytes) page.groups is.groups;
      count = omega (arith, fits.1, after);
      length = omega (arith, len, length-word 8 page.changes, length-word 2 (length page.groups), length-zeros6, fits.0, after, is.header);
    }

pub writable : (max : ℕ) (bytes : List ℕ) (r : Result Page PageError) → length bytes ≤ 65536 → IfOk r (IsPage max bytes) → IfOk r CanWritePage
writable max bytes (Ok page) short is = can_write max bytes page is short
writable max bytes (Err e) short is = tt
