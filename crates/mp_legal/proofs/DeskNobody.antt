-- Nobody is inside a side after the calls of a desk.
use Rattle.std.proofs.Common.{◌≡◌, ℕ, ◌+◌, ◌-◌, List, length, get_or, set, inl, inr, sym, ap, ◌∙◌, arith, get_or-set_same, get_or-set_other}
use Rattle.std.proofs.lemmas.Bool.{cases_eq}
use Rattle.std.proofs.lemmas.List.{length-set, get_or_past}
use Rattle.mp_words.specs.declared.words.Side.{Side}
use Rattle.mp_words.proofs.Places.{cases_lt}
use Rattle.mp_core.specs.Memory.{Memory, no_side, one_in, one_out}
use Rattle.mp_legal.specs.ToldKeeper.{NobodyInside}

-- the sides after one was entered and left
abbrev pub visited : ℕ → List Side → List Side
visited at sides = set (set sides at (one_in (get_or sides at no_side))) at (one_out (get_or (set sides at (one_in (get_or sides at no_side))) at no_side))

-- a side is as full as before it was entered and left
pub visited_inside : (at side : ℕ) (sides : List Side) → (get_or (visited at sides) side no_side).inside ≡ (get_or sides side no_side).inside
visited_inside at side sides =
    let first : List Side = set sides at (one_in (get_or sides at no_side)) in
    let long : length first ≡ length sides = length-set sides at (one_in (get_or sides at no_side)) in
    elim (cases_eq side at) [
      | inl is ↦ elim (cases_lt at (length sides)) [
        | inl lt ↦
            let here : get_or first at no_side ≡ one_in (get_or sides at no_side) = get_or-set_same sides at (one_in (get_or sides at no_side)) no_side lt in
            let there : get_or (visited at sides) at no_side ≡ one_out (get_or first at no_side) = get_or-set_same first at (one_out (get_or first at no_side)) no_side (omega (arith, long, lt)) in
            let out : (get_or (visited at sides) at no_side).inside ≡ (get_or sides at no_side).inside + 1 - 1 = ap (λ (s : Side). s.inside) (there ∙ ap one_out here) in
            let less : (get_or sides at no_side).inside + 1 - 1 ≡ (get_or sides at no_side).inside = omega arith in
            ap (λ s. (get_or (visited at sides) s no_side).inside) is ∙ out ∙ less ∙ ap (λ s. (get_or sides s no_side).inside) (sym is)
        | inr past ↦
            let long2 : length (visited at sides) ≡ length first = length-set first at (one_out (get_or first at no_side)) in
            let a : get_or (visited at sides) at no_side ≡ no_side = get_or_past (visited at sides) at no_side (omega (arith, long, long2, past)) in
            let b : get_or sides at no_side ≡ no_side = get_or_past sides at no_side past in
            ap (λ s. (get_or (visited at sides) s no_side).inside) is ∙ ap (λ (s : Side). s.inside) (a ∙ sym b) ∙ ap (λ s. (get_or sides s no_side).inside) (sym is)
      ]
      | inr apart ↦ ap (λ (s : Side). s.inside) (get_or-set_other first at side (one_out (get_or first at no_side)) no_side apart ∙ get_or-set_other sides at side (one_in (get_or sides at no_side)) no_side apart)
    ]

-- nobody is inside after a section, in which the sides stayed
pub nobody_visited : (at : ℕ) (m n : Memory) → n.sides ≡ visited at m.sides → NobodyInside m → NobodyInside n
nobody_visited at m n is nobody side = ap (λ (ss : List Side). (get_or ss side no_side).inside) is ∙ visited_inside at side m.sides ∙ nobody side

-- nobody is inside where the sides stayed
pub nobody_same : (m n : Memory) → n.sides ≡ m.sides → NobodyInside m → NobodyInside n
nobody_same m n is nobody side = ap (λ (ss : List Side). (get_or ss side no_side).inside) is ∙ nobody side
