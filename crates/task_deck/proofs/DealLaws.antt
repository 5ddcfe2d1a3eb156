-- Each step of a deck keeps its rule.
use Rattle.std.proofs.Common.{◌≡◌, ◌≢◌, ◌⊎◌, ℕ, zero, suc, ◌<◌, true, false, true≢false, cond, List, [], ◌∷◌, ◌++◌, length, set, sym, refl, ap, ◌∙◌, subst, ⊎_elim, inl, inr, append_assoc, append-nil, ◌≤◌, length-set, eq-eqb, ne_eqb, arith, eqb, length-append, Bool}
use mathlib.Core.Option.{some, some-injective, some-ne-none}
use mathlib.Core.Logic.{dite}
use native.Mathlib.Decide.{ℕ_discrete}
use lib.ListN.{get_elem?}
use Rattle.crossbeam_deque.specs.Tasks.{Pushes, Takes, Forks, Merges, Finds, FindsFew}
use Rattle.crossbeam_deque.proofs.Lists.{at_set, set_here, set_else, at_longer}
use Rattle.slot_box.specs.Tasks.{TaskParts}
use Rattle.std.specs.Prelude.{Contains}
use Rattle.number_counts.proofs.Members.{among-none, among-which}
use Rattle.task_deck.specs.declared.hand.Taken.{Taken}
use Rattle.task_deck.specs.Accounts.{tasks_of, taken_by}
use Rattle.task_deck.specs.declared.hand.Hand.{Hand}
use Rattle.task_deck.specs.inside.Hands.{owner_hand, gone_hand, pass_hand, with_pushed, with_taken, with_pass, with_known}
use Rattle.task_deck.specs.inside.Dealing.{IsKnown, Fits, IsDealt, IsNext, IsEmptyFor}

-- ---- lists

in_range : (l : List Hand) (i : ℕ) (a : Hand) → get_elem? l i ≡ some a → i < length l
in_range [] i a e = absurd (some-ne-none a (sym e))
in_range (x ∷ xs) zero a e = omega arith
in_range (x ∷ xs) (suc i) a e = let h = in_range xs i a e in omega arith

at_end : (l : List Hand) (a b : Hand) (j : ℕ) → get_elem? (l ++ a ∷ []) j ≡ some b → (get_elem? l j ≡ some b) ⊎ ((j ≡ length l) × (a ≡ b))
at_end [] a b zero e = inr (refl, some-injective a b e)
at_end [] a b (suc j) e = absurd (some-ne-none b (sym e))
at_end (x ∷ xs) a b zero e = inl e
at_end (x ∷ xs) a b (suc j) e = ⊎_elim (λ t. inl t) (λ t. inr (ap suc t.0, t.1)) (at_end xs a b j e)

push_cond : (b : Bool) (y x : TaskParts) (us vs : List TaskParts) → us ≡ vs ++ x ∷ [] → cond b (y ∷ us) us ≡ cond b (y ∷ vs) vs ++ x ∷ []
push_cond true y x us vs e = ap (λ (l : List TaskParts). y ∷ l) e
push_cond false y x us vs e = e

of_same : (p : ℕ) (xs : List (ℕ × TaskParts)) (x : TaskParts) → taken_by p (xs ++ (p, x) ∷ []) ≡ taken_by p xs ++ x ∷ []
of_same p [] x = ap (λ (b : Bool). cond b (x ∷ []) []) (eq-eqb p p refl)
of_same p (y ∷ ys) x = push_cond (eqb p y.0) y.1 x _ _ (of_same p ys x)

of_other : (q p : ℕ) → q ≢ p → (xs : List (ℕ × TaskParts)) (x : TaskParts) → taken_by q (xs ++ (p, x) ∷ []) ≡ taken_by q xs
of_other q p ne [] x = ap (λ (b : Bool). cond b (x ∷ []) []) (ne_eqb q p ne)
of_other q p ne (y ∷ ys) x = ap (λ (l : List TaskParts). cond (eqb q y.0) (y.1 ∷ l) l) (of_other q p ne ys x)

tasks_snoc : (xs : List (ℕ × TaskParts)) (p : ℕ) (x : TaskParts) → tasks_of (xs ++ (p, x) ∷ []) ≡ tasks_of xs ++ x ∷ []
tasks_snoc [] p x = refl
tasks_snoc (y ∷ ys) p x = ap (λ (l : List TaskParts). y.1 ∷ l) (tasks_snoc ys p x)

all_set : (F : ℕ → Hand → Type 0) (views : List Hand) (port : ℕ) (w : Hand) → F port w → ((j : ℕ) (u : Hand) → j ≢ port → get_elem? views j ≡ some u → F j u)
    → (j : ℕ) (u : Hand) → get_elem? (set views port w) j ≡ some u → F j u
all_set F views port w mine others j u e = ⊎_elim (λ (x : (j ≡ port) × (w ≡ u)). subst (λ (y : ℕ × Hand). F y.0 y.1) (λ i. (sym x.0 i, x.1 i)) mine)
    (λ (x : (j ≢ port) × (get_elem? views j ≡ some u)). others j u x.0 x.1) (at_set views port j w u e)

shorter : (b : Bool) (y : TaskParts) (us : List TaskParts) (n : ℕ) → length us ≤ n → length (cond b (y ∷ us) us) ≤ suc n
shorter true y us n le = omega arith
shorter false y us n le = omega arith

of_short : (p : ℕ) (xs : List (ℕ × TaskParts)) → length (taken_by p xs) ≤ length (tasks_of xs)
of_short p [] = omega arith
of_short p (y ∷ ys) = let r = of_short p ys in shorter (eqb p y.0) y.1 (taken_by p ys) (length (tasks_of ys)) r

-- where no pass has taken a task, the owner took all
owner-alone : (takes : List (ℕ × TaskParts)) → ((who : ℕ) → 0 < who → taken_by who takes ≡ []) → taken_by 0 takes ≡ tasks_of takes
owner-alone [] none = refl
owner-alone ((zero, x) ∷ takes) none = ap (λ (l : List TaskParts). x ∷ l) (owner-alone takes (λ who lt. rest-none who lt))
  where
    rest-none : (who : ℕ) → 0 < who → taken_by who takes ≡ []
    rest-none who lt = sym (ap (λ (b : Bool). cond b (x ∷ taken_by who takes) (taken_by who takes)) (ne_eqb who 0 (λ e. omega arith))) ∙ none who lt
owner-alone ((suc p, x) ∷ takes) none =
    let some : x ∷ taken_by (suc p) takes ≡ [] = sym (ap
    (λ (b : Bool). cond b (x ∷ taken_by (suc p) takes) (taken_by (suc p) takes)) (eq-eqb (suc p) (suc p) refl)) ∙ none (suc p) (omega arith) in
    let long : length (x ∷ taken_by (suc p) takes) ≡ 0 = ap length some in absurd (omega arith)

pub begins : IsDealt [] (owner_hand ∷ [])
begins = record {
  takes = [];
  fits = λ j u e. ⊎_elim (λ t. absurd (some-ne-none u (sym t)))
      (λ (t : (j ≡ 0) × (owner_hand ≡ u)). subst (λ (y : Hand). Fits [] [] (owner_hand ∷ []) j y) t.1 (record {
        owner = λ _. record {
          place = t.0;
          made = refl;
          pushed = refl;
          taken = refl;
          no_other = λ who lt. refl;
          known = λ k among. absurd (among-none k among);
        };
        thief = λ no. absurd (true≢false no);
      }))
      (at_end [] (owner_hand) u j e);
}

pub pushes : (port : ℕ) (v : Hand) (xs : List TaskParts) → v.owns ≡ true → Pushes IsDealt port v xs (λ w. w ≡ with_pushed v xs)
pushes port v xs may items views h at = let w : Hand = with_pushed v xs in let o = (h.fits port v at).owner may in
    let n = length-set views port w in let here = o.place in (
      w,
      record {
        takes = h.takes;
        fits = all_set (Fits h.takes (items ++ xs) (set views port w)) views port w
            (record {
              owner = λ _. record {
                place = o.place;
                made = n ∙ o.made;
                pushed = ap (λ (l : List TaskParts). l ++ xs) o.pushed ∙ append_assoc (tasks_of h.takes) items xs;
                taken = o.taken;
                no_other = o.no_other;
                known = λ k among. let was = o.known k among in record {
                  tasks = was.tasks;
                  gone = set_else views port (suc k.pass) w
                      (λ e. omega arith) ∙ was.gone;
                };
              };
              thief = λ no. absurd (true≢false (sym may ∙ no));
            })
            (λ j u ne e. record {
              owner = λ p. absurd (ne (((h.fits j u e).owner p).place ∙ sym o.place));
              thief = (h.fits j u e).thief;
            });
      },
      refl,
    )

pub pops : (port : ℕ) (v : Hand) → v.owns ≡ true → Takes IsDealt port v 1 (λ xs w. (w ≡ with_taken v xs) × IsNext v xs)
pops port v may [] items views some_ few h at = absurd (omega arith)
pops port v may (x ∷ y ∷ ys) items views some_ few h at = absurd (omega arith)
pops port v may (x ∷ []) items views some_ few h at = let w : Hand = with_taken v (x ∷ []) in let o = (h.fits port v at).owner may in
    let n = length-set views port w in let takes = h.takes ++ (0, x) ∷ [] in let here = o.place in
    let pushed : v.pushed ≡ tasks_of takes ++ items = o.pushed ∙ sym (append_assoc (tasks_of h.takes) (x ∷ []) items)
    ∙ ap (λ (l : List TaskParts). l ++ items) (sym (tasks_snoc h.takes 0 x)) in
    let taken : w.taken ≡ taken_by 0 takes = ap (λ (l : List TaskParts). l ++ x ∷ []) o.taken ∙ sym (of_same 0 h.takes x) in (
      w,
      record {
        takes = takes;
        fits = all_set (Fits takes items (set views port w)) views port w
            (record {
              owner = λ _. record {
                place = o.place;
                made = n ∙ o.made;
                pushed = pushed;
                taken = taken;
                no_other = λ who lt. of_other who 0 (λ z. omega arith) h.takes x ∙ o.no_other who lt;
                known = λ k among. let was = o.known k among in record {
                  tasks = was.tasks ∙ sym (of_other (suc k.pass) 0 (λ z. omega arith) h.takes x);
                  gone = set_else views port (suc k.pass) w (λ e. omega arith) ∙ was.gone;
                };
              };
              thief = λ no. absurd (true≢false (sym may ∙ no));
            })
            (λ j u ne e. record {
              owner = λ p. absurd (ne (((h.fits j u e).owner p).place ∙ sym o.place));
              thief = λ a b. let t = (h.fits j u e).thief a b in let p = t.place in
                  record { place = p; taken = t.taken ∙ sym (of_other j 0 (λ z. omega arith) h.takes x) };
            });
      },
      (
        refl,
        record {
          few = λ _. let a : length w.taken ≡ length (taken_by 0 takes) = ap length taken in
              let b : length v.pushed ≡ length (tasks_of takes ++ items) = ap length pushed in
              let c = length-append (tasks_of takes) items in let d = of_short 0 takes in omega arith;
          alone = λ _ none. (
            items,
            pushed ∙ ap (λ (l : List TaskParts). l ++ items) (sym (taken ∙ owner-alone takes (λ who lt. of_other who 0 (λ z. omega arith) h.takes x
                ∙ o.no_other who (omega arith)))),
          );
        },
      ),
    )

pub steals : (port : ℕ) (v : Hand) → v.owns ≡ false → v.gone ≡ false → Takes IsDealt port v 1 (λ xs w. (w ≡ with_taken v xs) × IsNext v xs)
steals port v thief here [] items views some_ few h at = absurd (omega arith)
steals port v thief here (x ∷ y ∷ ys) items views some_ few h at = absurd (omega arith)
steals port v thief here (x ∷ []) items views some_ few h at = let w : Hand = with_taken v (x ∷ []) in
    let t = (h.fits port v at).thief thief here in let n = length-set views port w in let takes = h.takes ++ (port, x) ∷ [] in
    let inside = in_range views port v at in let mine = t.place in (
      w,
      record {
        takes = takes;
        fits = all_set (Fits takes items (set views port w)) views port w
            (record {
              owner = λ yes. absurd (true≢false (sym yes ∙ thief));
              thief = λ _ _. record { place = t.place; taken = ap (λ (l : List TaskParts). l ++ x ∷ []) t.taken ∙ sym (of_same port h.takes x) };
            })
            (λ j u ne e. record {
              owner = λ p. let o = (h.fits j u e).owner p in let made = o.made in
                  let apart : (k : Taken) → Contains u.known k
                  → suc k.pass ≢ port = λ k among is. true≢false (ap
                  (λ (y : Hand). y.gone) (some-injective gone_hand v (sym ((o.known k among).gone) ∙ ap (get_elem? views) is ∙ at))
                  ∙ here) in record {
                    place = o.place;
                    made = n ∙ o.made;
                    pushed = o.pushed ∙ sym (append_assoc (tasks_of h.takes) (x ∷ []) items)
                        ∙ ap (λ (l : List TaskParts). l ++ items) (sym (tasks_snoc h.takes port x));
                    taken = o.taken ∙ sym (of_other 0 port (λ z. omega arith) h.takes x);
                    no_other = λ who lt. of_other who port (λ z. omega arith) h.takes x ∙ o.no_other who lt;
                    known = λ k among. let was = o.known k among in record {
                      tasks = was.tasks ∙ sym (of_other (suc k.pass) port (apart k among) h.takes x);
                      gone = set_else views port (suc k.pass) w (apart k among) ∙ was.gone;
                    };
                  };
              thief = λ a b. let s = (h.fits j u e).thief a b in record { place = s.place; taken = s.taken ∙ sym (of_other j port ne h.takes x) };
            });
      },
      (refl, record { few = λ yes. absurd (true≢false (sym yes ∙ thief)); alone = λ yes _. absurd (true≢false (sym yes ∙ thief)) }),
    )

pub forks : (port : ℕ) (v : Hand) → v.owns ≡ true → Forks IsDealt port v (with_pass v) (pass_hand v)
forks port v may items views h at = let l : Hand = with_pass v in let r : Hand = pass_hand v in let o = (h.fits port v at).owner may in
    let vs : List Hand = set views port l in let n = length-set views port l in
    let here = o.place in let views' : List Hand = vs ++ r ∷ [] in let longer : length views' ≡ suc (suc v.passes) = (let k = length-append vs
    (r ∷ []) in let m = o.made in omega arith) in record {
      takes = h.takes;
      fits = λ j u e. ⊎_elim
          (λ x. all_set (Fits h.takes items views') views port l
          (record {
            owner = λ _. record {
              place = o.place;
              made = longer;
              pushed = o.pushed;
              taken = o.taken;
              no_other = λ who lt. o.no_other who (omega arith);
              known = λ k among. let was = o.known k among in record {
                tasks = was.tasks;
                gone = at_longer vs (r ∷ []) (suc k.pass) gone_hand (set_else views port (suc k.pass) l (λ e. omega arith) ∙ was.gone);
              };
            };
            thief = λ no. absurd (true≢false (sym may ∙ no));
          })
          (λ j u ne e. record {
            owner = λ p. absurd (ne (((h.fits j u e).owner p).place ∙ sym o.place));
            thief = (h.fits j u e).thief;
          })
          j u x)
          (λ (x : (j ≡ length vs) × (r ≡ u)). subst (λ (y : Hand). Fits h.takes items views' j y) x.1 (record {
            owner = λ yes. absurd (true≢false (sym yes));
            thief = λ _ _. let m = o.made in let k = x.0 in record { place = omega arith; taken = sym (o.no_other j (omega arith)) };
          }))
          (at_end vs r u j e);
    }

pub gathers : (port : ℕ) (v : Hand) (other : ℕ) (u : Hand) → v.owns ≡ true → u.owns ≡ false → u.gone ≡ false
    → Merges IsDealt port v other u (with_known v u) gone_hand
gathers port v other u may thief there items views h at two at' = let w : Hand = with_known v u in let vs : List Hand = set views port w in
    let o = (h.fits port v at).owner may in let n = length-set views port w in let n' = length-set vs other gone_hand in
    let was : get_elem? views other ≡ some u = sym (set_else views port other w two) ∙ at' in
    let t = (h.fits other u was).thief thief there in let mine = o.place in let place = t.place in let made = o.made in
    let inside = in_range vs other u at' in
    let left : (k : ℕ) → (suc k ≡ other) ⊎ ((suc k ≢ other) × (get_elem? views (suc k) ≡ some gone_hand))
    → get_elem? (set vs other gone_hand) (suc k) ≡ some gone_hand = λ k which. ⊎_elim
    (λ (is : suc k ≡ other). ap (get_elem? (set vs other gone_hand)) is ∙ set_here vs other gone_hand inside)
    (λ (x : (suc k ≢ other) × (get_elem? views (suc k) ≡ some gone_hand)). set_else vs other (suc k) gone_hand x.0
    ∙ set_else views port (suc k) w (λ e. omega arith) ∙ x.1) which in record {
      takes = h.takes;
      fits = all_set (Fits h.takes items (set vs other gone_hand)) vs other gone_hand
          (record { owner = λ yes. absurd (true≢false (sym yes)); thief = λ _ no. absurd (true≢false no) })
          (λ j y ne e. all_set (Fits h.takes items (set vs other gone_hand)) views port w
          (record {
            owner = λ _. record {
              place = o.place;
              made = n' ∙ n ∙ o.made;
              pushed = o.pushed;
              taken = o.taken;
              no_other = o.no_other;
              known = λ k among. ⊎_elim
                  (λ (is : k ≡ record { pass = u.number; tasks = u.taken }). subst (IsKnown h.takes (set vs other gone_hand)) (sym is) (record {
                    tasks = t.taken ∙ ap (λ (p : ℕ). taken_by p h.takes) place;
                    gone = left u.number (inl (sym place));
                  }))
                  (λ more. let known = o.known k more in record {
                    tasks = known.tasks;
                    gone = left k.pass (dite (ℕ_discrete (suc k.pass) other) (λ is. inl is) (λ ne. inr (ne, known.gone)));
                  })
                  (among-which (record { pass = u.number; tasks = u.taken }) v.known k among);
            };
            thief = λ no. absurd (true≢false (sym may ∙ no));
          })
          (λ j y ne e. record { owner = λ p. absurd (ne (((h.fits j y e).owner p).place ∙ sym o.place)); thief = (h.fits j y e).thief })
          j y e);
    }

pub deals_out : (port : ℕ) (v : Hand) → Finds IsDealt port v (IsEmptyFor v)
deals_out port v views h at own = let o = (h.fits port v at).owner own in let pushed = o.pushed ∙ append-nil (tasks_of h.takes) in record {
  takes = h.takes;
  pushed = pushed;
  taken = o.taken;
  no_other = o.no_other;
  known = λ k among. (o.known k among).tasks;
  alone = λ none. pushed ∙ sym (owner-alone h.takes (λ who lt. o.no_other who (omega arith))) ∙ sym o.taken;
}

pub finds_nothing : (most port : ℕ) (v : Hand) → v.owns ≡ false → FindsFew IsDealt most port v (IsEmptyFor v)
finds_nothing most port v thief items views few h at own = absurd (true≢false (sym own ∙ thief))
