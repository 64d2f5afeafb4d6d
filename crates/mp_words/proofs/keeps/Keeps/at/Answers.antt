use Rattle.std.proofs.Common.{◌≡◌, ◌<◌, length, sym, ap, subst, arith}
use Rattle.std.specs.Prelude.{slice_get, Some}
use Rattle.std.proofs.lemmas.Bool.Decides.{nat_tests}
use Rattle.mp_words.specs.declared.kept_try.KeptTry.TheVariants as how
use Rattle.mp_words.proofs.Wholes.{counted-at, kept-length, listed-at, listed-long}
use Rattle.mp_words.proofs.keeps.Keeps.at.Goals as goal

pub overflow_cast-result : goal.overflow_cast-result
overflow_cast-result c =
    let s = c.self.inside in
    omega (arith, c.requires, kept-length s.count s.kept.items c.self.invariant.1, ap (λ v. length v.items) c.self.view_is, c.self.invariant.0)

pub index-requires : goal.index-requires
index-requires c =
    let s = c.self.inside in
    let some : length s.kept.items ≡ 0 → ⊥ = λ none. grind (arith, nat_tests) in
    omega (arith, c.requires, kept-length s.count s.kept.items c.self.invariant.1, ap (λ v. length v.items) c.self.view_is, listed-long s.count s.kept.items c.self.invariant.1 some)

pub returns-then-is_empty : goal.returns-then-is_empty
returns-then-is_empty c =
    let s = c.self.inside in
    let items = ap (λ v. v.items) c.self.view_is in
    let none : length s.kept.items ≡ 0 = grind (arith, nat_tests) in
    subst (λ ks. slice_get ks c.args.place ≡ Some (how.Whole c.args.place)) items (counted-at s.count c.args.place s.kept.items none (subst (λ ks. c.args.place < length ks) (sym items) c.requires))

pub returns-else-is_empty : goal.returns-else-is_empty
returns-else-is_empty c =
    let s = c.self.inside in
    let some : length s.kept.items ≡ 0 → ⊥ = λ none. grind (arith, nat_tests) in
    let within : c.args.place < length s.kept.items = omega (arith, c.requires, kept-length s.count s.kept.items c.self.invariant.1, ap (λ v. length v.items) c.self.view_is, listed-long s.count s.kept.items c.self.invariant.1 some) in
    subst (λ ks. slice_get ks c.args.place ≡ Some c.index.result.now) (ap (λ v. v.items) c.self.view_is) (listed-at s.count c.args.place s.kept.items c.index.result.now within c.index.ensures)
