-- Each step of a board keeps its rule.
use Rattle.std.proofs.Common.{◌≡◌, ◌≢◌, ◌⊎◌, ℕ, zero, suc, ◌+◌, ◌%◌, ◌^◌, ◌<◌, ◌≤◌, max, true, false, true≢false, cond, List, [], ◌∷◌, ◌++◌, length, set, get_or, sym, refl, ap, ◌∙◌, subst, ⊎_elim, inl, inr, length-set, arith, length-append, Bool, Some, None, Option, get_or-set_same}
use mathlib.Core.Option.{none, some, some-injective, some-ne-none}
use mathlib.Core.Logic.{dite}
use native.Mathlib.Decide.{ℕ_discrete, dec_le}
use Rattle.std.proofs.Math.Nat.{le-max_left, max-le}
use lib.ListN.{get_elem?}
use Rattle.atomic_table.specs.Table.{State, Step, step, keeps, stepped, Allows, Splits, Joins, Final, Seen}
use Rattle.atomic_table.proofs.Lists.{at_set, set_here, set_else, set_again}
use Rattle.search_board.specs.declared.known.Known.{Known}
use Rattle.number_counts.specs.Counts.{one, times, HasEachBelow}
use Rattle.number_counts.proofs.CountLaws.{one-same, one-other, times-append}
use Rattle.search_board.specs.Margins.{most_word}
use Rattle.search_board.specs.Seats.{first_told}
use Rattle.search_board.specs.inside.Views.{gone_view, with_ticket, with_spent, with_offer, with_look, with_seat, new_seat, joined, told_one, idle_one}
use Rattle.search_board.specs.inside.Rule.{total, below, Fits, Reached, Holds, IsKept}
use Rattle.search_board.specs.inside.Steps.{Sitter, Draws, Offers, Looks, Stays}

-- ---- lists of views

total_set : (f : Known → ℕ) (views : List Known) (i : ℕ) (v w : Known) → get_elem? views i ≡ some v → total f (set views i w) + f v ≡ total f views + f w
total_set f [] i v w e = absurd (some-ne-none v (sym e))
total_set f (x ∷ xs) zero v w e = let is : f x ≡ f v = ap f (some-injective x v e) in omega arith
total_set f (x ∷ xs) (suc i) v w e = let r = total_set f xs i v w e in omega arith

total_snoc : (f : Known → ℕ) (views : List Known) (w : Known) → total f (views ++ w ∷ []) ≡ total f views + f w
total_snoc f [] w = omega arith
total_snoc f (x ∷ xs) w = let r = total_snoc f xs w in omega arith

total_at : (f : Known → ℕ) (views : List Known) (i : ℕ) (v : Known) → get_elem? views i ≡ some v → f v ≤ total f views
total_at f [] i v e = absurd (some-ne-none v (sym e))
total_at f (x ∷ xs) zero v e = let is : f x ≡ f v = ap f (some-injective x v e) in omega arith
total_at f (x ∷ xs) (suc i) v e = let r = total_at f xs i v e in omega arith

told_most : (t : Option ℕ) → told_one t ≤ 1
told_most None = omega arith
told_most (Some n) = omega arith

cond_most : (b : Bool) (n : ℕ) → n ≤ 1 → cond b 1 n ≤ 1
cond_most true n le = omega arith
cond_most false n le = le

idle_total : (views : List Known) → total idle_one views ≤ length views
idle_total [] = omega arith
idle_total (x ∷ xs) = let r = idle_total xs in let k = cond_most x.gone (told_one x.told) (told_most x.told) in omega arith

in_range : (l : List Known) (i : ℕ) (a : Known) → get_elem? l i ≡ some a → i < length l
in_range [] i a e = absurd (some-ne-none a (sym e))
in_range (x ∷ xs) zero a e = omega arith
in_range (x ∷ xs) (suc i) a e = let h = in_range xs i a e in omega arith

at_end : (l : List Known) (a b : Known) (j : ℕ) → get_elem? (l ++ a ∷ []) j ≡ some b → (get_elem? l j ≡ some b) ⊎ ((j ≡ length l) × (a ≡ b))
at_end [] a b zero e = inr (refl, some-injective a b e)
at_end [] a b (suc j) e = absurd (some-ne-none b (sym e))
at_end (x ∷ xs) a b zero e = inl e
at_end (x ∷ xs) a b (suc j) e = ⊎_elim (λ t. inl t) (λ t. inr (ap suc t.0, t.1)) (at_end xs a b j e)

all_set : (F : Known → Type 0) (views : List Known) (port : ℕ) (w : Known) → F w → ((j : ℕ) (u : Known) → j ≢ port → get_elem? views j ≡ some u → F u)
    → (j : ℕ) (u : Known) → get_elem? (set views port w) j ≡ some u → F u
all_set F views port w mine others j u e = ⊎_elim (λ (x : (j ≡ port) × (w ≡ u)). subst F x.1 mine)
    (λ (x : (j ≢ port) × (get_elem? views j ≡ some u)). others j u x.0 x.1) (at_set views port j w u e)

longer_at : (l m : List Known) (i : ℕ) (a : Known) → get_elem? l i ≡ some a → get_elem? (l ++ m) i ≡ some a
longer_at [] m i a e = absurd (some-ne-none a (sym e))
longer_at (x ∷ xs) m zero a e = e
longer_at (x ∷ xs) m (suc i) a e = longer_at xs m i a e

-- ---- numbers that were drawn

times_snoc : (x : ℕ) (ys : List ℕ) (y : ℕ) → times x (ys ++ y ∷ []) ≡ times x ys + one x y
times_snoc x [] y = omega arith
times_snoc x (z ∷ zs) y = let r = times_snoc x zs y in omega arith

below_none : (x n : ℕ) → n ≤ x → below x n ≡ 0
below_none x zero le = refl
below_none x (suc n) le = let r = below_none x n (omega arith) in let o = one-other x n (λ e. omega arith) in omega arith

-- ---- who offered the most

reached_at : (views : List Known) (best : ℕ) (id : ℕ) (v : Known) → get_elem? views id ≡ some v → (w : Known) → (v.offer ≡ best → w.offer ≡ best)
    → Reached best views → Reached best (set views id w)
reached_at views best id v at w same r = dite (ℕ_discrete r.0 id)
    (λ e. (
      id,
      w,
      set_here views id w (in_range views id v at),
      same (ap (λ (u : Known). u.offer) (some-injective v r.1 (sym at
          ∙ sym (ap (get_elem? views) e) ∙ r.2)) ∙ r.3),
    ))
    (λ ne. (r.0, r.1, set_else views id r.0 w ne ∙ r.2, r.3))

-- ---- one view has all seats

total_none : (f g : Known → ℕ) (views : List Known) → total g views ≡ 0 → ((j : ℕ) (u : Known) → get_elem? views j ≡ some u → g u ≡ 0 → f u ≡ 0)
    → total f views ≡ 0
total_none f g [] z h = refl
total_none f g (x ∷ xs) z h = let a = h 0 x refl (omega arith) in let r = total_none f g xs (omega arith) (λ j u e. h (suc j) u e) in omega arith

total_rest : (f g : Known → ℕ) (views : List Known) (id : ℕ) (v : Known) → get_elem? views id ≡ some v → total g views ≡ g v → ((j : ℕ) (u : Known)
    → get_elem? views j ≡ some u → g u ≡ 0 → f u ≡ 0) → total f views ≡ f v
total_rest f g [] id v at z h = absurd (some-ne-none v (sym at))
total_rest f g (x ∷ xs) zero v at z h = let is = some-injective x v at in let a : g x ≡ g v = ap g is in let b : f x ≡ f v = ap f is in
    let r = total_none f g xs (omega arith) (λ j u e. h (suc j) u e) in omega arith
total_rest f g (x ∷ xs) (suc id) v at z h = let k = total_at g xs id v at in let a = h 0 x refl (omega arith) in
    let r = total_rest f g xs id v at (omega arith) (λ j u e. h (suc j) u e) in omega arith

total_add : (f g : Known → ℕ) (views : List Known) → total (λ u. f u + g u) views ≡ total f views + total g views
total_add f g [] = omega arith
total_add f g (x ∷ xs) = let r = total_add f g xs in omega arith

bool_cases : (b : Bool) → (b ≡ true) ⊎ (b ≡ false)
bool_cases true = inl refl
bool_cases false = inr refl

told_first : (a b : Option ℕ) → told_one a + told_one b ≤ told_one (first_told a b) + 1
told_first None None = omega arith
told_first None (Some m) = omega arith
told_first (Some n) None = omega arith
told_first (Some n) (Some m) = omega arith

told_which : (a b : Option ℕ) → told_one (first_told a b) ≡ 1 → (told_one a ≡ 1) ⊎ (told_one b ≡ 1)
told_which None b e = inr e
told_which (Some n) b e = inl refl

idle_here : (v : Known) → v.gone ≡ false → idle_one v ≡ told_one v.told
idle_here v here = ap (λ (b : Bool). cond b 1 (told_one v.told)) here

-- ---- the words

module _ (budget counter best : ℕ) (views : List Known) (h : Holds budget counter best views) where
  -- the counter never wraps
  pub roomy : counter < 18446744073709551615
  roomy = let a = h.bounded in let b = idle_total views in let c = h.seats in let d = h.small in omega arith

  module _ (id : ℕ) (v : Known) (at : get_elem? views id ≡ some v) (here : v.gone ≡ false) where
    abbrev mine : Fits budget counter best v
    mine = h.each id v at

    abbrev gone_not : {X : Type 0} → v.gone ≡ true → X
    gone_not e = absurd (true≢false (sym e ∙ here))

    -- a view that changes neither seats nor tickets nor what is offered
    pub looked : Holds budget counter best (set views id (with_look v best))
    looked = let w : Known = with_look v best in let long = length-set views id w in record {
      small = h.small;
      margins = h.margins;
      drawn = h.drawn;
      under = h.under;
      full = h.full;
      once = λ x. let t = total_set (λ u. times x u.tickets) views id v w at in let o = h.once x in omega arith;
      count = (let t = total_set (λ u. length u.tickets) views id v w at in let o = h.count in omega arith);
      bounded = (let t = total_set idle_one views id v w at in let o = h.bounded in omega arith);
      seats = (let t = total_set (λ u. u.may) views id v w at in let o = h.seats in omega arith);
      standing = (let t = total_set (λ u. u.stands) views id v w at in let o = h.standing in omega arith);
      each = all_set (Fits budget counter best) views id w
          (record { budgets = mine.budgets; alive = mine.alive; left = λ e. gone_not e; past = mine.past; saw = omega arith; offered = mine.offered })
          (λ j u ne e. h.each j u e);
      reached = ⊎_elim (λ z. inl z) (λ r. inr (reached_at views best id v at w (λ e. e) r)) h.reached;
    }

    later : (u : Known) → Fits budget counter best u → Fits budget (suc counter) best u
    later u f = record { budgets = f.budgets; alive = f.alive; left = f.left; past = λ e. (let p = f.past e in omega arith); saw = f.saw; offered = f.offered }

    pub drew : counter < budget → Holds budget (suc counter) best (set views id (with_ticket v counter))
    drew lt = let w : Known = with_ticket v counter in let long = length-set views id w in let un = h.under in
        let d : h.drawn ≡ counter = ⊎_elim (λ e. e) (λ (e : h.drawn ≡ budget). absurd (omega arith)) h.full in record {
          small = h.small;
          margins = h.margins;
          drawn = suc counter;
          under = (omega arith, omega arith);
          full = inl refl;
          once = λ x. let t = total_set (λ u. times x u.tickets) views id v w at in let o = h.once x in
              let b : below x h.drawn ≡ below x counter = ap (below x) d in let n = times_snoc x v.tickets counter in omega arith;
          count = (let t = total_set (λ u. length u.tickets) views id v w at in let o = h.count in
              let n = length-append v.tickets (counter ∷ []) in omega arith);
          bounded = omega arith;
          seats = (let t = total_set (λ u. u.may) views id v w at in let o = h.seats in omega arith);
          standing = (let t = total_set (λ u. u.stands) views id v w at in let o = h.standing in omega arith);
          each = all_set (Fits budget (suc counter) best) views id w
              (record {
                budgets = mine.budgets;
                alive = mine.alive;
                left = λ e. gone_not e;
                past = λ e. (let p = mine.past e in omega arith);
                saw = mine.saw;
                offered = mine.offered;
              })
              (λ j u ne e. later u (h.each j u e));
          reached = ⊎_elim (λ z. inl z) (λ r. inr (reached_at views best id v at w (λ e. e) r)) h.reached;
        }

    -- the number is new to the seat, which has fewer tickets than the budget
    pub is_new : counter < budget → (length v.tickets < budget) × (times counter v.tickets ≡ 0)
    is_new lt = let un = h.under in let d : h.drawn ≡ counter = ⊎_elim (λ e. e) (λ (e : h.drawn ≡ budget). absurd (omega arith)) h.full in
        let a = total_at (λ u. length u.tickets) views id v at in let b = h.count in
        let c = total_at (λ u. times counter u.tickets) views id v at in let o = h.once counter in
        let n = below_none counter h.drawn (omega arith) in (omega arith, omega arith)

    pub refused : budget ≤ counter → told_one v.told ≡ 0 → Holds budget (suc counter) best (set views id (with_spent v counter))
    refused le free = let w : Known = with_spent v counter in let long = length-set views id w in let un = h.under in record {
      small = h.small;
      margins = h.margins;
      drawn = h.drawn;
      under = (omega arith, omega arith);
      full = ⊎_elim (λ (e : h.drawn ≡ counter). inr (omega arith)) (λ e. inr e) h.full;
      once = λ x. let t = total_set (λ u. times x u.tickets) views id v w at in let o = h.once x in omega arith;
      count = (let t = total_set (λ u. length u.tickets) views id v w at in let o = h.count in omega arith);
      bounded = (let t = total_set idle_one views id v w at in let o = h.bounded in let a = idle_here v here in let b = idle_here w here in omega arith);
      seats = (let t = total_set (λ u. u.may) views id v w at in let o = h.seats in omega arith);
      standing = (let t = total_set (λ u. u.stands) views id v w at in let o = h.standing in omega arith);
      each = all_set (Fits budget (suc counter) best) views id w
          (record { budgets = mine.budgets; alive = mine.alive; left = λ e. gone_not e; past = λ e. omega arith; saw = mine.saw; offered = mine.offered })
          (λ j u ne e. later u (h.each j u e));
      reached = ⊎_elim (λ z. inl z) (λ r. inr (reached_at views best id v at w (λ e. e) r)) h.reached;
    }

    higher : (k : ℕ) (u : Known) → Fits budget counter best u → Fits budget counter (max best k) u
    higher k u f = let m = le-max_left best k in let a = f.saw in let b = f.offered in
        record { budgets = f.budgets; alive = f.alive; left = f.left; past = f.past; saw = omega arith; offered = omega arith }

    pub offered : (k : ℕ) → k ≤ most_word → Holds budget counter (max best k) (set views id (with_offer v k))
    offered k fits = let w : Known = with_offer v k in let long = length-set views id w in let a = mine.offered in let b = mine.saw in record {
      small = h.small;
      margins = max-le h.margins fits;
      drawn = h.drawn;
      under = h.under;
      full = h.full;
      once = λ x. let t = total_set (λ u. times x u.tickets) views id v w at in let o = h.once x in omega arith;
      count = (let t = total_set (λ u. length u.tickets) views id v w at in let o = h.count in omega arith);
      bounded = (let t = total_set idle_one views id v w at in let o = h.bounded in omega arith);
      seats = (let t = total_set (λ u. u.may) views id v w at in let o = h.seats in omega arith);
      standing = (let t = total_set (λ u. u.stands) views id v w at in let o = h.standing in omega arith);
      each = all_set (Fits budget counter (max best k)) views id w
          (record { budgets = mine.budgets; alive = mine.alive; left = λ e. gone_not e; past = mine.past; saw = omega arith; offered = omega arith })
          (λ j u ne e. higher k u (h.each j u e));
      reached = dite (dec_le best k)
          (λ le. inr (id, w, set_here views id w (in_range views id v at), omega arith))
          (λ gt. let m : max best k ≡ best = omega arith in ⊎_elim (λ (z : best ≡ 0). absurd (gt (omega arith)))
          (λ r. inr (subst (λ (n : ℕ). Reached n (set views id w)) (sym m) (reached_at views best id v at w (λ (e : v.offer ≡ best). omega arith) r)))
          h.reached);
    }

    pub seated : 0 < v.may → Holds budget counter best (set views id (with_seat v) ++ new_seat v ∷ [])
    seated some_left = let w : Known = with_seat v in let r : Known = new_seat v in let vs : List Known = set views id w in
        let long = length-set views id w in let longer = length-append vs (r ∷ []) in record {
          small = h.small;
          margins = h.margins;
          drawn = h.drawn;
          under = h.under;
          full = h.full;
          once = λ x. let t = total_set (λ u. times x u.tickets) views id v w at in let o = h.once x in
              let z = total_snoc (λ u. times x u.tickets) vs r in omega arith;
          count = (let t = total_set (λ u. length u.tickets) views id v w at in let o = h.count in let z =
              total_snoc (λ u. length u.tickets) vs r in omega arith);
          bounded = (let t = total_set idle_one views id v w at in let o = h.bounded in let z = total_snoc idle_one vs r in omega arith);
          seats = (let t = total_set (λ u. u.may) views id v w at in let o = h.seats in let z = total_snoc (λ u. u.may) vs r in omega arith);
          standing = (let t = total_set (λ u. u.stands) views id v w at in let o = h.standing in let z = total_snoc (λ u. u.stands) vs r in omega arith);
          each = λ j u e. ⊎_elim
              (λ x. all_set (Fits budget counter best) views id w
              (record { budgets = mine.budgets; alive = mine.alive; left = λ e. gone_not e; past = mine.past; saw = mine.saw; offered = mine.offered })
              (λ j u ne e. h.each j u e)
              j u x)
              (λ (x : (j ≡ length vs) × (r ≡ u)). subst (Fits budget counter best) x.1
              (record {
                budgets = λ _. mine.budgets here;
                alive = λ _. omega arith;
                left = λ e. absurd (true≢false (sym e));
                past = λ e. absurd (omega arith);
                saw = mine.saw;
                offered = omega arith;
              }))
              (at_end vs r u j e);
          reached = ⊎_elim (λ z. inl z) (λ q. let p = reached_at views best id v at w
              (λ e. e) q in inr (p.0, p.1, longer_at vs (r ∷ []) p.0 p.1 p.2, p.3)) h.reached;
        }

    pub joins : (other : ℕ) (u : Known) → other ≢ id → get_elem? (set views id (joined v u)) other ≡ some u → u.gone ≡ false
        → Holds budget counter best (set (set views id (joined v u)) other gone_view)
    joins other u two at' there = let w : Known = joined v u in let vs : List Known = set views id w in let long = length-set views id w in
        let long' = length-set vs other gone_view in
        let was : get_elem? views other ≡ some u = sym (set_else views id other w two) ∙ at' in let theirs = h.each other u was in
        let a = mine.saw in let b = theirs.saw in let c = mine.offered in let d = theirs.offered in
        let at_w : get_elem? (set vs other gone_view) id ≡ some w = set_else vs other id gone_view (λ e. two (sym e))
        ∙ set_here views id w (in_range views id v at) in record {
          small = h.small;
          margins = h.margins;
          drawn = h.drawn;
          under = h.under;
          full = h.full;
          once = λ x. let t = total_set (λ u. times x u.tickets) views id v w at in
              let t' = total_set (λ u. times x u.tickets) vs other u gone_view at' in let o = h.once x in
              let z = times-append x v.tickets u.tickets in omega arith;
          count = (let t = total_set (λ u. length u.tickets) views id v w at in
              let t' = total_set (λ u. length u.tickets) vs other u gone_view at' in let o = h.count in
              let z = length-append v.tickets u.tickets in omega arith);
          bounded = (let t = total_set idle_one views id v w at in let t' = total_set idle_one vs other u gone_view at' in
              let o = h.bounded in let x = idle_here v here in let y = idle_here u there in let z = idle_here w here in
              let k = told_first v.told u.told in omega arith);
          seats = (let t = total_set (λ u. u.may) views id v w at in let t' = total_set (λ u. u.may) vs other u gone_view at' in
              let o = h.seats in omega arith);
          standing = (let t = total_set (λ u. u.stands) views id v w at in let t' = total_set (λ u. u.stands) vs other u gone_view at' in
              let o = h.standing in omega arith);
          each = all_set (Fits budget counter best) vs other gone_view
              (record {
                budgets = λ e. absurd (true≢false e);
                alive = λ e. absurd (true≢false e);
                left = λ _. refl;
                past = λ e. absurd (omega arith);
                saw = omega arith;
                offered = omega arith;
              })
              (λ j y ne e. all_set (Fits budget counter best) views id w
              (record {
                budgets = mine.budgets;
                alive = λ e. (let p = mine.alive e in omega arith);
                left = λ e. gone_not e;
                past = λ e. ⊎_elim mine.past theirs.past (told_which v.told u.told e);
                saw = max-le a b;
                offered = max-le c d;
              })
              (λ j y ne e. h.each j y e)
              j y e);
          reached = ⊎_elim (λ z. inl z)
              (λ q. dite (ℕ_discrete q.0 other)
              (λ e. let same : q.1.offer ≡ u.offer = ap (λ (y : Known). y.offer) (some-injective q.1 u (sym q.2 ∙ ap (get_elem? views) e
              ∙ was)) in let is = q.3 in inr (id, w, at_w, omega arith))
              (λ ne. dite (ℕ_discrete q.0 id)
              (λ e. let same : q.1.offer ≡ v.offer = ap (λ (y : Known). y.offer) (some-injective q.1 v (sym q.2 ∙ ap (get_elem? views) e
              ∙ at)) in let is = q.3 in inr (id, w, at_w, omega arith))
              (λ ne'. inr (q.0, q.1, set_else vs other q.0 gone_view ne ∙ set_else views id q.0 w ne' ∙ q.2, q.3))))
              h.reached;
        }

-- ---- in the end

-- what the last seat knows in the end, in the words of the board
pub record IsEnd (budget tickets best : ℕ) (v : Known) : Type 0 where
  pub each : HasEachBelow tickets v.tickets
  pub within : tickets ≤ budget
  pub told : told_one v.told ≡ 1 → tickets ≡ budget
  pub offered : best ≡ v.offer
  pub saw : v.seen ≤ best

below-some : (x n : ℕ) → x < n → below x n ≡ 1
below-some x zero lt = absurd (omega arith)
below-some x (suc n) lt = dite (ℕ_discrete x n) (λ e. let r = below_none x n (omega arith) in let o = one-same x n e in omega arith)
    (λ ne. let r = below-some x n (omega arith) in let o = one-other x n ne in omega arith)

each-below : (n : ℕ) (xs : List ℕ) → ((x : ℕ) → times x xs ≡ below x n) → HasEachBelow n xs
each-below n xs same = record { once = λ x lt. same x ∙ below-some x n lt; no_other = λ x le. same x ∙ below_none x n le }

module _ (budget counter best : ℕ) (views : List Known) (h : Holds budget counter best views) (id : ℕ) (v : Known)
    (at : get_elem? views id ≡ some v) (whole : v.stands + v.may ≡ 32) where
  abbrev seats_of : Known → ℕ
  seats_of u = u.stands + u.may

  all_here : total seats_of views ≡ seats_of v
  all_here = let a = total_add (λ u. u.stands) (λ u. u.may) views in let b = h.seats in let c = h.standing in omega arith

  others : (f : Known → ℕ) → f gone_view ≡ 0 → (j : ℕ) (u : Known) → get_elem? views j ≡ some u → seats_of u ≡ 0 → f u ≡ 0
  others f z j u e none_ = let fits = h.each j u e in ⊎_elim (λ yes. ap f (fits.left yes)
      ∙ z) (λ no. let p = fits.alive no in absurd (omega arith)) (bool_cases u.gone)

  pub ends : (tickets : ℕ) → (tickets ≤ counter) × (tickets ≤ budget) → (tickets ≡ counter) ⊎ (tickets ≡ budget) → IsEnd budget tickets best v
  ends tickets under full = let un = h.under in
      let d : h.drawn ≡ tickets = ⊎_elim (λ (a : h.drawn ≡ counter). ⊎_elim (λ (b : tickets ≡ counter). a
      ∙ sym b) (λ (b : tickets ≡ budget). omega arith) full) (λ (a : h.drawn ≡ budget). ⊎_elim (λ (b : tickets ≡ counter). omega arith)
      (λ (b : tickets ≡ budget). a ∙ sym b) full) h.full in
      let most : total (λ u. u.offer) views ≡ v.offer = total_rest (λ u. u.offer) seats_of views id v at all_here (others (λ u. u.offer) refl) in
      let mine = h.each id v at in let o = mine.offered in record {
        each = each-below tickets v.tickets (λ x. sym (total_rest (λ u. times x u.tickets) seats_of views id v at all_here (others
            (λ u. times x u.tickets) refl)) ∙ h.once x ∙ ap (below x) d);
        within = under.1;
        told = λ e. (let p = mine.past e in ⊎_elim (λ (b : tickets ≡ counter). let q = under.1 in absurd (omega arith)) (λ b. b) full);
        offered = ⊎_elim (λ (z : best ≡ 0). omega arith) (λ q. let r = total_at (λ u. u.offer) views q.0 q.1 q.2 in let is = q.3 in omega arith) h.reached;
        saw = mine.saw;
      }

-- ---- the steps

other_word : (l : List ℕ) (i j n : ℕ) → j ≢ i → get_or (set l i n) j 0 ≡ get_or l j 0
other_word [] i j n ne = refl
other_word (x ∷ xs) zero zero n ne = absurd (ne refl)
other_word (x ∷ xs) zero (suc j) n ne = refl
other_word (x ∷ xs) (suc i) zero n ne = refl
other_word (x ∷ xs) (suc i) (suc j) n ne = other_word xs i j n (λ e. ne (ap suc e))

abbrev St : Type 0
St = State (Unit {0}) Known

module _ (budget : ℕ) (s : St) (k : IsKept budget s) (slots : List (ℕ × Unit {0})) where
  -- the words after a step, where only one has changed
  counted : (n id : ℕ) (w : Known) → Holds budget n (get_or s.words 1 0) (set s.views id w) → IsKept budget (stepped s 0 n id slots w keeps)
  counted n id w h = let wide = k.words in record {
    words = length-set s.words 0 n ∙ wide;
    holds = subst (λ (z : ℕ × ℕ). Holds budget z.0 z.1 (set s.views id w))
        (λ i. (sym (get_or-set_same s.words 0 n 0 (omega arith)) i, sym (other_word s.words 0 1 n (λ e. omega arith)) i)) h;
  }

  bettered : (n id : ℕ) (w : Known) → Holds budget (get_or s.words 0 0) n (set s.views id w) → IsKept budget (stepped s 1 n id slots w keeps)
  bettered n id w h = let wide = k.words in record {
    words = length-set s.words 1 n ∙ wide;
    holds = subst (λ (z : ℕ × ℕ). Holds budget z.0 z.1 (set s.views id w)) (λ i. (
      sym (other_word s.words 1 0 n
          (λ e. omega arith)) i,
      sym (get_or-set_same s.words 1 n 0 (omega arith)) i,
    )) h;
  }

pub draws : (budget slots id : ℕ) (me : Sitter) → me.0.gone ≡ false → told_one me.0.told ≡ 0
    → Allows (IsKept budget) slots id me 0 (λ n. (n + 1) % 2 ^ 64) (Draws (step slots 0 1 0 none) me)
draws budget slots id me here free s k _ at _ = let counter : ℕ = get_or s.words 0 0 in let best : ℕ = get_or s.words 1 0 in
    let h = k.holds in let v : Known = me.0 in
    let room : counter < 18446744073709551615 = roomy budget counter best s.views h in
    let is : suc counter ≡ (counter + 1) % 18446744073709551616 = omega arith in
    let b = (h.each id v at).budgets here in dite (dec_le (suc counter) budget)
    (λ (lt : counter < budget). let w : Known = with_ticket v counter in let new = is_new budget counter best s.views h id v at here lt in (
      w,
      keeps,
      tt,
      subst (λ (z : ℕ). IsKept budget (stepped s 0 z id me.1 w keeps)) is (counted budget s k me.1 (suc counter) id w
          (drew budget counter best s.views h id v at here lt)),
      record { slots = refl; given = λ _. (refl, subst (λ (z : ℕ). length v.tickets < z) (sym b) new.0, new.1); refused = λ le. absurd (omega arith) },
    ))
    (λ ge. let w : Known = with_spent v counter in (
      w,
      keeps,
      tt,
      subst (λ (z : ℕ). IsKept budget (stepped s 0 z id me.1 w keeps)) is (counted budget s k me.1 (suc counter) id w
          (refused budget counter best s.views h id v at here (omega arith) free)),
      record { slots = refl; given = λ lt. absurd (ge (omega arith)); refused = λ _. refl },
    ))

pub offers : (budget slots id : ℕ) (me : Sitter) (k : ℕ) → k ≤ most_word → me.0.gone ≡ false
    → Allows (IsKept budget) slots id me 1 (λ n. max n k) (Offers (step slots 1 k 0 none) me)
offers budget slots id me k fits here s kept _ at _ = let counter : ℕ = get_or s.words 0 0 in let best : ℕ = get_or s.words 1 0 in
    let w : Known = with_offer me.0 k in
    (w, keeps, tt, bettered budget s kept me.1 (max best k) id w (offered budget counter best s.views kept.holds id me.0 at here k fits), (refl, refl))

pub looks : (budget slots id : ℕ) (me : Sitter) → me.0.gone ≡ false → Allows (IsKept budget) slots id me 1 (λ n. n) (Looks (step slots 1 0 0 none) me)
looks budget slots id me here s kept _ at _ = let counter : ℕ = get_or s.words 0 0 in let best : ℕ = get_or s.words 1 0 in
    let w : Known = with_look me.0 best in let f = kept.holds.each id me.0 at in (
      w,
      keeps,
      tt,
      bettered budget s kept me.1 best id w (looked budget counter best s.views kept.holds id me.0 at here),
      record {
        slots = refl;
        view = refl;
        seen = f.saw;
        offer = f.offered;
        small = kept.holds.margins;
      },
    )

pub splits : (budget id : ℕ) (v : Known) → v.gone ≡ false → 0 < v.may → Splits (IsKept budget) id v (with_seat v) (new_seat v)
splits budget id v here some_left s k at = record {
  words = k.words;
  holds = seated budget (get_or s.words 0 0) (get_or s.words 1 0) s.views k.holds id v at here some_left;
}

pub merges : (budget id : ℕ) (v : Known) (other : ℕ) (u : Known) → v.gone ≡ false → u.gone ≡ false → Joins (IsKept budget) id v other u (joined v u) gone_view
merges budget id v other u here there s k at two at' = record {
  words = k.words;
  holds = joins budget (get_or s.words 0 0) (get_or s.words 1 0) s.views k.holds id v at here other u two at' there;
}

index_of : (l : List ℕ) (i n : ℕ) → get_elem? l i ≡ some n → get_or l i 0 ≡ n
index_of [] i n e = absurd (some-ne-none n (sym e))
index_of (x ∷ xs) zero n e = some-injective x n e
index_of (x ∷ xs) (suc i) n e = index_of xs i n e

pub closes : (budget id : ℕ) (v : Known) (words : List ℕ) (slots : List (Unit {0})) (counter best tickets : ℕ)
    → Final (Seen (IsKept budget) id v) words slots → get_elem? words 0 ≡ some counter → get_elem? words 1 ≡ some best
    → v.stands + v.may ≡ 32 → (tickets ≤ counter) × (tickets ≤ budget) → (tickets ≡ counter) ⊎ (tickets ≡ budget) → IsEnd budget tickets best v
closes budget id v words slots counter best tickets f first second whole under full = let s = f.0 in let k = f.1.0 in
    let h : Holds budget counter best s.views = subst (λ (z : ℕ × ℕ). Holds budget z.0 z.1 s.views) (λ i. (
      (ap (λ (l : List ℕ). get_or l 0 0) f.2
          ∙ index_of words 0 counter first) i,
      (ap (λ (l : List ℕ). get_or l 1 0) f.2 ∙ index_of words 1 best second) i,
    )) k.holds in
    ends budget counter best s.views h id v f.1.1 whole tickets under full

-- a hint may be read or written in any way
pub hints : (budget slots id : ℕ) (me : Sitter) (i : ℕ) (f : ℕ → ℕ) (st : Step (Unit {0})) → 1 < i → Allows (IsKept budget) slots id me i f (Stays st me)
hints budget slots id me i f st past s k _ at _ = let wide = k.words in (
  me.0,
  keeps,
  tt,
  record {
    words = length-set s.words i (f (get_or s.words i 0)) ∙ wide;
    holds = subst (λ (z : ℕ × ℕ × List Known). Holds budget z.0 z.1 z.2) (λ j. (
      sym (other_word s.words i 0 (f (get_or s.words i 0)) (λ e. omega arith)) j,
      sym (other_word s.words i 1 (f (get_or s.words i 0)) (λ e. omega arith)) j,
      sym (set_again s.views id me.0 at) j,
    )) k.holds;
  },
  (refl, refl),
)

told-none : (told : Option ℕ) → told ≡ None → told_one told ≡ 0
told-none told is = ap told_one is

-- a seat that was not told asks
pub asks : (budget slots id : ℕ) (me : Sitter) → me.0.gone ≡ false → me.0.told ≡ None
    → Allows (IsKept budget) slots id me 0 (λ n. (n + 1) % 2 ^ 64) (Draws (step slots 0 1 0 none) me)
asks budget slots id me here free = draws budget slots id me here (told-none me.0.told free)
