use Rattle.std.proofs.Common.{◌≡◌, ◌<◌, Some, length, vec_len, map, get_or, sym, ap, subst, ◌∙◌, arith}
use Rattle.std.proofs.lemmas.List.{length-map}
use Rattle.mp_record.specs.declared.event.Event.TheVariants as event
use Rattle.mp_record.specs.declared.event.Said.TheVariants as word
use Rattle.mp_record.specs.Kept.{retold, told, IsBelow}
use Rattle.mp_record.proofs.Apart.{told-at, same-at, at-below}
use Rattle.mp_record.proofs.notes.LaneNotes.at.Goals as goal

pub index-requires-in-Apart : goal.index-requires-in-Apart
index-requires-in-Apart c =
    let ks = c.self.inside.kept.items in
    let is : c.args.self.now.events ≡ map (told c.self.inside.apart.items) ks = ap (λ v. v.events) (sym c.self.view_is) in
    let len : length c.args.self.now.events ≡ length ks = rw is (length-map ks (told c.self.inside.apart.items)) in
    let lt : c.args.place < length ks = omega (arith, c.requires) in
    let at : c.index.result.now ≡ get_or ks c.args.place c.index.result.now = cc in
    let below = at-below (vec_len c.self.inside.apart) ks c.args.place c.index.result.now lt c.self.invariant.0 in
    subst (IsBelow (vec_len c.self.inside.apart)) (sym at ∙ c.in-Apart.is) below

pub index-requires-in-Section : goal.index-requires-in-Section
index-requires-in-Section c =
    let ks = c.self.inside.kept.items in
    let is : c.args.self.now.events ≡ map (told c.self.inside.apart.items) ks = ap (λ v. v.events) (sym c.self.view_is) in
    let len : length c.args.self.now.events ≡ length ks = rw is (length-map ks (told c.self.inside.apart.items)) in
    let lt : c.args.place < length ks = omega (arith, c.requires) in
    let at : c.index.result.now ≡ get_or ks c.args.place c.index.result.now = cc in
    let below = at-below (vec_len c.self.inside.apart) ks c.args.place c.index.result.now lt c.self.invariant.0 in
    subst (IsBelow (vec_len c.self.inside.apart)) (sym at ∙ c.in-Section.is) below

pub returns-in-At : goal.returns-in-At
returns-in-At c =
    let ks = c.self.inside.kept.items in
    let apart = c.self.inside.apart.items in
    let at : c.index.result.now ≡ get_or ks c.args.place c.index.result.now = cc in
    let is : c.args.self.now.events ≡ map (told apart) ks = ap (λ v. v.events) (sym c.self.view_is) in
    told-at c.args.self.now.events apart ks c.args.place c.index.result.now is c.requires at ∙ ap (λ k. Some (told apart k)) c.in-At.is

pub returns-in-Try : goal.returns-in-Try
returns-in-Try c =
    let ks = c.self.inside.kept.items in
    let apart = c.self.inside.apart.items in
    let at : c.index.result.now ≡ get_or ks c.args.place c.index.result.now = cc in
    let is : c.args.self.now.events ≡ map (told apart) ks = ap (λ v. v.events) (sym c.self.view_is) in
    told-at c.args.self.now.events apart ks c.args.place c.index.result.now is c.requires at ∙ ap (λ k. Some (told apart k)) c.in-Try.is

pub returns-in-Done : goal.returns-in-Done
returns-in-Done c =
    let ks = c.self.inside.kept.items in
    let apart = c.self.inside.apart.items in
    let at : c.index.result.now ≡ get_or ks c.args.place c.index.result.now = cc in
    let is : c.args.self.now.events ≡ map (told apart) ks = ap (λ v. v.events) (sym c.self.view_is) in
    told-at c.args.self.now.events apart ks c.args.place c.index.result.now is c.requires at ∙ ap (λ k. Some (told apart k)) c.in-Done.is

pub returns-in-Unset : goal.returns-in-Unset
returns-in-Unset c =
    let ks = c.self.inside.kept.items in
    let apart = c.self.inside.apart.items in
    let at : c.index.result.now ≡ get_or ks c.args.place c.index.result.now = cc in
    let is : c.args.self.now.events ≡ map (told apart) ks = ap (λ v. v.events) (sym c.self.view_is) in
    told-at c.args.self.now.events apart ks c.args.place c.index.result.now is c.requires at ∙ ap (λ k. Some (told apart k)) c.in-Unset.is

pub returns-in-Apart : goal.returns-in-Apart
returns-in-Apart c =
    let ks = c.self.inside.kept.items in
    let apart = c.self.inside.apart.items in
    let at : c.index.result.now ≡ get_or ks c.args.place c.index.result.now = cc in
    let is : c.args.self.now.events ≡ map (told apart) ks = ap (λ v. v.events) (sym c.self.view_is) in
    let here : c.index-in-Apart.result.now ≡ get_or apart c.in-Apart.place c.index-in-Apart.result.now = cc in
    let len : length c.args.self.now.events ≡ length ks = rw is (length-map ks (told apart)) in
    let low = subst (IsBelow (vec_len c.self.inside.apart)) (sym at ∙ c.in-Apart.is) (at-below (vec_len c.self.inside.apart) ks c.args.place c.index.result.now (omega (arith, c.requires)) c.self.invariant.0) in
    let within : c.in-Apart.place < length apart = omega (arith, low) in
    told-at c.args.self.now.events apart ks c.args.place c.index.result.now is c.requires at ∙ ap (λ k. Some (told apart k)) c.in-Apart.is
    ∙ ap Some (same-at apart c.in-Apart.place (event.At 0 word.Idle) c.index-in-Apart.result.now within here)

pub returns-in-Section : goal.returns-in-Section
returns-in-Section c =
    let ks = c.self.inside.kept.items in
    let apart = c.self.inside.apart.items in
    let at : c.index.result.now ≡ get_or ks c.args.place c.index.result.now = cc in
    let is : c.args.self.now.events ≡ map (told apart) ks = ap (λ v. v.events) (sym c.self.view_is) in
    let here : c.index-in-Section.result.now ≡ get_or apart c.in-Section.like c.index-in-Section.result.now = cc in
    let len : length c.args.self.now.events ≡ length ks = rw is (length-map ks (told c.self.inside.apart.items)) in
    let low = subst (IsBelow (vec_len c.self.inside.apart)) (sym at ∙ c.in-Section.is) (at-below (vec_len c.self.inside.apart) ks c.args.place c.index.result.now (omega (arith, c.requires)) c.self.invariant.0) in
    let within : c.in-Section.like < length apart = omega (arith, low) in
    told-at c.args.self.now.events apart ks c.args.place c.index.result.now is c.requires at ∙ ap (λ k. Some (told apart k)) c.in-Section.is
    ∙ ap (λ e. Some (retold c.in-Section.ticket c.in-Section.current e)) (same-at apart c.in-Section.like (event.At 0 word.Idle) c.index-in-Section.result.now within here)
    ∙ ap Some (sym c.retold.ensures)
