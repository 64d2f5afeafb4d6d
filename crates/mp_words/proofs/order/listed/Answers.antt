use Rattle.std.proofs.Common.{◌≡◌, true, [], ◌∷◌, None, sym, ◌∙◌, rules}
use Rattle.mp_words.specs.OrderWord.{is_disordered}
use Rattle.mp_words.specs.Later.{Tells}
use Rattle.mp_words.proofs.Behinds.{nothing, further, no_more, in_order}
use Rattle.mp_words.proofs.order.listed.Goals as goal

pub returns-in_err-later : goal.returns-in_err-later
returns-in_err-later c =
    let r : c.from_residual.result ≡ None = search rules in
    let d : is_disordered (c.args.h ∷ []) ≡ true = c.in_err-later.ensures.told ([]) nothing in
    r ∙ sym (no_more (c.args.a ∷ c.args.b ∷ c.args.c ∷ c.args.d ∷ c.args.e ∷ c.args.f ∷ c.args.g ∷ c.args.h ∷ []) (further c.args.a (c.args.b ∷ c.args.c ∷ c.args.d ∷ c.args.e ∷ c.args.f ∷ c.args.g ∷ c.args.h ∷ []) (further c.args.b (c.args.c ∷ c.args.d ∷ c.args.e ∷ c.args.f ∷ c.args.g ∷ c.args.h ∷ []) (further c.args.c (c.args.d ∷ c.args.e ∷ c.args.f ∷ c.args.g ∷ c.args.h ∷ []) (further c.args.d (c.args.e ∷ c.args.f ∷ c.args.g ∷ c.args.h ∷ []) (further c.args.e (c.args.f ∷ c.args.g ∷ c.args.h ∷ []) (further c.args.f (c.args.g ∷ c.args.h ∷ []) (further c.args.g (c.args.h ∷ []) d))))))))

pub returns-in_err-later-2 : goal.returns-in_err-later-2
returns-in_err-later-2 c =
    let t1 : Tells c.in_ok-later.later (c.args.h ∷ []) = c.in_ok-later.ensures.told ([]) nothing in
    let r : c.from_residual-in_err-later-2.result ≡ None = search rules in
    let d : is_disordered (c.args.g ∷ c.args.h ∷ []) ≡ true = c.in_err-later-2.ensures.told (c.args.h ∷ []) t1 in
    r ∙ sym (no_more (c.args.a ∷ c.args.b ∷ c.args.c ∷ c.args.d ∷ c.args.e ∷ c.args.f ∷ c.args.g ∷ c.args.h ∷ []) (further c.args.a (c.args.b ∷ c.args.c ∷ c.args.d ∷ c.args.e ∷ c.args.f ∷ c.args.g ∷ c.args.h ∷ []) (further c.args.b (c.args.c ∷ c.args.d ∷ c.args.e ∷ c.args.f ∷ c.args.g ∷ c.args.h ∷ []) (further c.args.c (c.args.d ∷ c.args.e ∷ c.args.f ∷ c.args.g ∷ c.args.h ∷ []) (further c.args.d (c.args.e ∷ c.args.f ∷ c.args.g ∷ c.args.h ∷ []) (further c.args.e (c.args.f ∷ c.args.g ∷ c.args.h ∷ []) (further c.args.f (c.args.g ∷ c.args.h ∷ []) d)))))))

pub returns-in_err-later-3 : goal.returns-in_err-later-3
returns-in_err-later-3 c =
    let t1 : Tells c.in_ok-later.later (c.args.h ∷ []) = c.in_ok-later.ensures.told ([]) nothing in
    let t2 : Tells c.in_ok-later-2.later (c.args.g ∷ c.args.h ∷ []) = c.in_ok-later-2.ensures.told (c.args.h ∷ []) t1 in
    let r : c.from_residual-in_err-later-3.result ≡ None = search rules in
    let d : is_disordered (c.args.f ∷ c.args.g ∷ c.args.h ∷ []) ≡ true = c.in_err-later-3.ensures.told (c.args.g ∷ c.args.h ∷ []) t2 in
    r ∙ sym (no_more (c.args.a ∷ c.args.b ∷ c.args.c ∷ c.args.d ∷ c.args.e ∷ c.args.f ∷ c.args.g ∷ c.args.h ∷ []) (further c.args.a (c.args.b ∷ c.args.c ∷ c.args.d ∷ c.args.e ∷ c.args.f ∷ c.args.g ∷ c.args.h ∷ []) (further c.args.b (c.args.c ∷ c.args.d ∷ c.args.e ∷ c.args.f ∷ c.args.g ∷ c.args.h ∷ []) (further c.args.c (c.args.d ∷ c.args.e ∷ c.args.f ∷ c.args.g ∷ c.args.h ∷ []) (further c.args.d (c.args.e ∷ c.args.f ∷ c.args.g ∷ c.args.h ∷ []) (further c.args.e (c.args.f ∷ c.args.g ∷ c.args.h ∷ []) d))))))

pub returns-in_err-later-4 : goal.returns-in_err-later-4
returns-in_err-later-4 c =
    let t1 : Tells c.in_ok-later.later (c.args.h ∷ []) = c.in_ok-later.ensures.told ([]) nothing in
    let t2 : Tells c.in_ok-later-2.later (c.args.g ∷ c.args.h ∷ []) = c.in_ok-later-2.ensures.told (c.args.h ∷ []) t1 in
    let t3 : Tells c.in_ok-later-3.later (c.args.f ∷ c.args.g ∷ c.args.h ∷ []) = c.in_ok-later-3.ensures.told (c.args.g ∷ c.args.h ∷ []) t2 in
    let r : c.from_residual-in_err-later-4.result ≡ None = search rules in
    let d : is_disordered (c.args.e ∷ c.args.f ∷ c.args.g ∷ c.args.h ∷ []) ≡ true = c.in_err-later-4.ensures.told (c.args.f ∷ c.args.g ∷ c.args.h ∷ []) t3 in
    r ∙ sym (no_more (c.args.a ∷ c.args.b ∷ c.args.c ∷ c.args.d ∷ c.args.e ∷ c.args.f ∷ c.args.g ∷ c.args.h ∷ []) (further c.args.a (c.args.b ∷ c.args.c ∷ c.args.d ∷ c.args.e ∷ c.args.f ∷ c.args.g ∷ c.args.h ∷ []) (further c.args.b (c.args.c ∷ c.args.d ∷ c.args.e ∷ c.args.f ∷ c.args.g ∷ c.args.h ∷ []) (further c.args.c (c.args.d ∷ c.args.e ∷ c.args.f ∷ c.args.g ∷ c.args.h ∷ []) (further c.args.d (c.args.e ∷ c.args.f ∷ c.args.g ∷ c.args.h ∷ []) d)))))

pub returns-in_err-later-5 : goal.returns-in_err-later-5
returns-in_err-later-5 c =
    let t1 : Tells c.in_ok-later.later (c.args.h ∷ []) = c.in_ok-later.ensures.told ([]) nothing in
    let t2 : Tells c.in_ok-later-2.later (c.args.g ∷ c.args.h ∷ []) = c.in_ok-later-2.ensures.told (c.args.h ∷ []) t1 in
    let t3 : Tells c.in_ok-later-3.later (c.args.f ∷ c.args.g ∷ c.args.h ∷ []) = c.in_ok-later-3.ensures.told (c.args.g ∷ c.args.h ∷ []) t2 in
    let t4 : Tells c.in_ok-later-4.later (c.args.e ∷ c.args.f ∷ c.args.g ∷ c.args.h ∷ []) = c.in_ok-later-4.ensures.told (c.args.f ∷ c.args.g ∷ c.args.h ∷ []) t3 in
    let r : c.from_residual-in_err-later-5.result ≡ None = search rules in
    let d : is_disordered (c.args.d ∷ c.args.e ∷ c.args.f ∷ c.args.g ∷ c.args.h ∷ []) ≡ true = c.in_err-later-5.ensures.told (c.args.e ∷ c.args.f ∷ c.args.g ∷ c.args.h ∷ []) t4 in
    r ∙ sym (no_more (c.args.a ∷ c.args.b ∷ c.args.c ∷ c.args.d ∷ c.args.e ∷ c.args.f ∷ c.args.g ∷ c.args.h ∷ []) (further c.args.a (c.args.b ∷ c.args.c ∷ c.args.d ∷ c.args.e ∷ c.args.f ∷ c.args.g ∷ c.args.h ∷ []) (further c.args.b (c.args.c ∷ c.args.d ∷ c.args.e ∷ c.args.f ∷ c.args.g ∷ c.args.h ∷ []) (further c.args.c (c.args.d ∷ c.args.e ∷ c.args.f ∷ c.args.g ∷ c.args.h ∷ []) d))))

pub returns-in_err-later-6 : goal.returns-in_err-later-6
returns-in_err-later-6 c =
    let t1 : Tells c.in_ok-later.later (c.args.h ∷ []) = c.in_ok-later.ensures.told ([]) nothing in
    let t2 : Tells c.in_ok-later-2.later (c.args.g ∷ c.args.h ∷ []) = c.in_ok-later-2.ensures.told (c.args.h ∷ []) t1 in
    let t3 : Tells c.in_ok-later-3.later (c.args.f ∷ c.args.g ∷ c.args.h ∷ []) = c.in_ok-later-3.ensures.told (c.args.g ∷ c.args.h ∷ []) t2 in
    let t4 : Tells c.in_ok-later-4.later (c.args.e ∷ c.args.f ∷ c.args.g ∷ c.args.h ∷ []) = c.in_ok-later-4.ensures.told (c.args.f ∷ c.args.g ∷ c.args.h ∷ []) t3 in
    let t5 : Tells c.in_ok-later-5.later (c.args.d ∷ c.args.e ∷ c.args.f ∷ c.args.g ∷ c.args.h ∷ []) = c.in_ok-later-5.ensures.told (c.args.e ∷ c.args.f ∷ c.args.g ∷ c.args.h ∷ []) t4 in
    let r : c.from_residual-in_err-later-6.result ≡ None = search rules in
    let d : is_disordered (c.args.c ∷ c.args.d ∷ c.args.e ∷ c.args.f ∷ c.args.g ∷ c.args.h ∷ []) ≡ true = c.in_err-later-6.ensures.told (c.args.d ∷ c.args.e ∷ c.args.f ∷ c.args.g ∷ c.args.h ∷ []) t5 in
    r ∙ sym (no_more (c.args.a ∷ c.args.b ∷ c.args.c ∷ c.args.d ∷ c.args.e ∷ c.args.f ∷ c.args.g ∷ c.args.h ∷ []) (further c.args.a (c.args.b ∷ c.args.c ∷ c.args.d ∷ c.args.e ∷ c.args.f ∷ c.args.g ∷ c.args.h ∷ []) (further c.args.b (c.args.c ∷ c.args.d ∷ c.args.e ∷ c.args.f ∷ c.args.g ∷ c.args.h ∷ []) d)))

pub returns-in_err-later-7 : goal.returns-in_err-later-7
returns-in_err-later-7 c =
    let t1 : Tells c.in_ok-later.later (c.args.h ∷ []) = c.in_ok-later.ensures.told ([]) nothing in
    let t2 : Tells c.in_ok-later-2.later (c.args.g ∷ c.args.h ∷ []) = c.in_ok-later-2.ensures.told (c.args.h ∷ []) t1 in
    let t3 : Tells c.in_ok-later-3.later (c.args.f ∷ c.args.g ∷ c.args.h ∷ []) = c.in_ok-later-3.ensures.told (c.args.g ∷ c.args.h ∷ []) t2 in
    let t4 : Tells c.in_ok-later-4.later (c.args.e ∷ c.args.f ∷ c.args.g ∷ c.args.h ∷ []) = c.in_ok-later-4.ensures.told (c.args.f ∷ c.args.g ∷ c.args.h ∷ []) t3 in
    let t5 : Tells c.in_ok-later-5.later (c.args.d ∷ c.args.e ∷ c.args.f ∷ c.args.g ∷ c.args.h ∷ []) = c.in_ok-later-5.ensures.told (c.args.e ∷ c.args.f ∷ c.args.g ∷ c.args.h ∷ []) t4 in
    let t6 : Tells c.in_ok-later-6.later (c.args.c ∷ c.args.d ∷ c.args.e ∷ c.args.f ∷ c.args.g ∷ c.args.h ∷ []) = c.in_ok-later-6.ensures.told (c.args.d ∷ c.args.e ∷ c.args.f ∷ c.args.g ∷ c.args.h ∷ []) t5 in
    let r : c.from_residual-in_err-later-7.result ≡ None = search rules in
    let d : is_disordered (c.args.b ∷ c.args.c ∷ c.args.d ∷ c.args.e ∷ c.args.f ∷ c.args.g ∷ c.args.h ∷ []) ≡ true = c.in_err-later-7.ensures.told (c.args.c ∷ c.args.d ∷ c.args.e ∷ c.args.f ∷ c.args.g ∷ c.args.h ∷ []) t6 in
    r ∙ sym (no_more (c.args.a ∷ c.args.b ∷ c.args.c ∷ c.args.d ∷ c.args.e ∷ c.args.f ∷ c.args.g ∷ c.args.h ∷ []) (further c.args.a (c.args.b ∷ c.args.c ∷ c.args.d ∷ c.args.e ∷ c.args.f ∷ c.args.g ∷ c.args.h ∷ []) d))

pub returns-in_err-later-8 : goal.returns-in_err-later-8
returns-in_err-later-8 c =
    let t1 : Tells c.in_ok-later.later (c.args.h ∷ []) = c.in_ok-later.ensures.told ([]) nothing in
    let t2 : Tells c.in_ok-later-2.later (c.args.g ∷ c.args.h ∷ []) = c.in_ok-later-2.ensures.told (c.args.h ∷ []) t1 in
    let t3 : Tells c.in_ok-later-3.later (c.args.f ∷ c.args.g ∷ c.args.h ∷ []) = c.in_ok-later-3.ensures.told (c.args.g ∷ c.args.h ∷ []) t2 in
    let t4 : Tells c.in_ok-later-4.later (c.args.e ∷ c.args.f ∷ c.args.g ∷ c.args.h ∷ []) = c.in_ok-later-4.ensures.told (c.args.f ∷ c.args.g ∷ c.args.h ∷ []) t3 in
    let t5 : Tells c.in_ok-later-5.later (c.args.d ∷ c.args.e ∷ c.args.f ∷ c.args.g ∷ c.args.h ∷ []) = c.in_ok-later-5.ensures.told (c.args.e ∷ c.args.f ∷ c.args.g ∷ c.args.h ∷ []) t4 in
    let t6 : Tells c.in_ok-later-6.later (c.args.c ∷ c.args.d ∷ c.args.e ∷ c.args.f ∷ c.args.g ∷ c.args.h ∷ []) = c.in_ok-later-6.ensures.told (c.args.d ∷ c.args.e ∷ c.args.f ∷ c.args.g ∷ c.args.h ∷ []) t5 in
    let t7 : Tells c.in_ok-later-7.later (c.args.b ∷ c.args.c ∷ c.args.d ∷ c.args.e ∷ c.args.f ∷ c.args.g ∷ c.args.h ∷ []) = c.in_ok-later-7.ensures.told (c.args.c ∷ c.args.d ∷ c.args.e ∷ c.args.f ∷ c.args.g ∷ c.args.h ∷ []) t6 in
    let r : c.from_residual-in_err-later-8.result ≡ None = search rules in
    let d : is_disordered (c.args.a ∷ c.args.b ∷ c.args.c ∷ c.args.d ∷ c.args.e ∷ c.args.f ∷ c.args.g ∷ c.args.h ∷ []) ≡ true = c.in_err-later-8.ensures.told (c.args.b ∷ c.args.c ∷ c.args.d ∷ c.args.e ∷ c.args.f ∷ c.args.g ∷ c.args.h ∷ []) t7 in
    r ∙ sym (no_more (c.args.a ∷ c.args.b ∷ c.args.c ∷ c.args.d ∷ c.args.e ∷ c.args.f ∷ c.args.g ∷ c.args.h ∷ []) (d))

pub returns : goal.returns
returns c =
    let t1 : Tells c.in_ok-later.later (c.args.h ∷ []) = c.in_ok-later.ensures.told ([]) nothing in
    let t2 : Tells c.in_ok-later-2.later (c.args.g ∷ c.args.h ∷ []) = c.in_ok-later-2.ensures.told (c.args.h ∷ []) t1 in
    let t3 : Tells c.in_ok-later-3.later (c.args.f ∷ c.args.g ∷ c.args.h ∷ []) = c.in_ok-later-3.ensures.told (c.args.g ∷ c.args.h ∷ []) t2 in
    let t4 : Tells c.in_ok-later-4.later (c.args.e ∷ c.args.f ∷ c.args.g ∷ c.args.h ∷ []) = c.in_ok-later-4.ensures.told (c.args.f ∷ c.args.g ∷ c.args.h ∷ []) t3 in
    let t5 : Tells c.in_ok-later-5.later (c.args.d ∷ c.args.e ∷ c.args.f ∷ c.args.g ∷ c.args.h ∷ []) = c.in_ok-later-5.ensures.told (c.args.e ∷ c.args.f ∷ c.args.g ∷ c.args.h ∷ []) t4 in
    let t6 : Tells c.in_ok-later-6.later (c.args.c ∷ c.args.d ∷ c.args.e ∷ c.args.f ∷ c.args.g ∷ c.args.h ∷ []) = c.in_ok-later-6.ensures.told (c.args.d ∷ c.args.e ∷ c.args.f ∷ c.args.g ∷ c.args.h ∷ []) t5 in
    let t7 : Tells c.in_ok-later-7.later (c.args.b ∷ c.args.c ∷ c.args.d ∷ c.args.e ∷ c.args.f ∷ c.args.g ∷ c.args.h ∷ []) = c.in_ok-later-7.ensures.told (c.args.c ∷ c.args.d ∷ c.args.e ∷ c.args.f ∷ c.args.g ∷ c.args.h ∷ []) t6 in
    let t8 : Tells c.in_ok-later-8.later (c.args.a ∷ c.args.b ∷ c.args.c ∷ c.args.d ∷ c.args.e ∷ c.args.f ∷ c.args.g ∷ c.args.h ∷ []) = c.in_ok-later-8.ensures.told (c.args.b ∷ c.args.c ∷ c.args.d ∷ c.args.e ∷ c.args.f ∷ c.args.g ∷ c.args.h ∷ []) t7 in
    sym (in_order c.in_ok-later-8.later (c.args.a ∷ c.args.b ∷ c.args.c ∷ c.args.d ∷ c.args.e ∷ c.args.f ∷ c.args.g ∷ c.args.h ∷ []) t8)
