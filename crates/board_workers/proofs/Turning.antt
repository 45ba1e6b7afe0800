-- What one interval, and a piece of them, adds to a view and a report.
use Rattle.std.proofs.Common.{◌≡◌, ℕ, zero, suc, ◌+◌, ◌<◌, ◌⊎◌, inl, inr, ⊎_elim, Bool, true, false, List, [], ◌∷◌, ◌++◌, map, sym, refl, ap, ◌∙◌, subst, arith}
use Rattle.std.specs.Prelude.{◌||◌, Option, Some, IsTrue}
use Rattle.std.proofs.lemmas.Bool.{false≢true}
use Rattle.board.specs.declared.view.View.{View}
use Rattle.board.specs.Views.{with_seen}
use Rattle.reports.specs.declared.entry.Entry.{Entry}
use Rattle.reports.specs.declared.entry.Found.{Found}
use Rattle.reports.specs.declared.entry.Found.TheVariants.{Won, Failed, Beaten, Unsettled}
use Rattle.reports.specs.Entries.{ReportData, In, entry_place, won_of, with_won, mii_at, is_won}
use Rattle.board_workers.specs.Worked.{IsBeatenRightly, HasLowerAnswer, HasLowerWin, from_on}
use Rattle.board_workers.specs.inner.Turns.{TakesOrPasses, entry_of, EntersOne, ViewGains, Adds}
use Rattle.board_workers.proofs.Members.{in_left, in_right}

pub append-nil : {X : Type 0} (xs : List X) → xs ++ [] ≡ xs
append-nil [] = refl
append-nil (x ∷ xs) = ap (λ r. x ∷ r) (append-nil xs)

pub append-assoc : {X : Type 0} (xs ys zs : List X) → (xs ++ ys) ++ zs ≡ xs ++ (ys ++ zs)
append-assoc [] ys zs = refl
append-assoc (x ∷ xs) ys zs = ap (λ r. x ∷ r) (append-assoc xs ys zs)

pub map-append : {X Y : Type 0} (f : X → Y) (xs ys : List X) → map f (xs ++ ys) ≡ map f xs ++ map f ys
map-append f [] ys = refl
map-append f (x ∷ xs) ys = ap (λ r. f x ∷ r) (map-append f xs ys)

pub won-append : (xs ys : List Entry) → won_of (xs ++ ys) ≡ won_of xs ++ won_of ys
won-append [] ys = refl
won-append (x ∷ xs) ys = go x.found (won-append xs ys)
  where
    go : (f : Found) → won_of (xs ++ ys) ≡ won_of xs ++ won_of ys → with_won f (entry_place x) (won_of (xs ++ ys)) ≡ with_won f (entry_place x) (won_of xs) ++ won_of ys
    go (Won k) rest = ap (λ r. entry_place x ∷ r) rest
    go (Failed c) rest = rest
    go Beaten rest = rest
    go Unsettled rest = rest

pub from_on-snoc : (start n : ℕ) → from_on start (suc n) ≡ from_on start n ++ (start + n) ∷ []
from_on-snoc start zero = ap (λ k. k ∷ []) (plain start)
  where
    plain : (a : ℕ) → a ≡ a + 0
    plain a = omega arith
from_on-snoc start (suc n) = ap (λ r. start ∷ r) (from_on-snoc (start + 1) n ∙ ap (λ k. from_on (start + 1) n ++ k ∷ []) (shift start n))
  where
    shift : (a k : ℕ) → a + 1 + k ≡ a + suc k
    shift a k = omega arith

pub in_append : {X : Type 0} (x : X) (xs ys : List X) → In x (xs ++ ys) → In x xs ⊎ In x ys
in_append x [] ys h = inr h
in_append {X} x (y ∷ xs) ys h = ⊎_elim (λ (is : y ≡ x). inl (inl is)) (λ (r : In x (xs ++ ys)). ⊎_elim (λ (a : In x xs). inl (inr a)) (λ (b : In x ys). inr b) (in_append x xs ys r)) h

abbrev is_beaten : Found → Bool
is_beaten (Won k) = false
is_beaten (Failed c) = false
is_beaten Beaten = true
is_beaten Unsettled = false

-- the facts of one interval
record OneStep (won : Bool) (l ii : ℕ) (v w : View) (found : Found) : Type 0 where
  drawn : w.drawn ≡ v.drawn
  posted : w.posted ≡ v.posted ++ won_of (entry_of l ii found ∷ [])
  seen : (s : ℕ × Option ℕ) → In s v.seen → In s w.seen
  count : w.count ≡ v.count
  beaten : found ≡ Beaten → IsTrue won ⊎ HasLowerAnswer w (entry_of l ii found)

looked : (l ii : ℕ) (v w : View) (found : Found) (a : Option ℕ) → w ≡ with_seen v l a → won_of (entry_of l ii found ∷ []) ≡ []
    → (found ≡ Beaten → HasLowerAnswer w (entry_of l ii found)) → OneStep false l ii v w found
looked l ii v w found a is none below = record {
  drawn = ap (λ (u : View). u.drawn) is;
  posted = ap (λ (u : View). u.posted) is ∙ sym (append-nil v.posted) ∙ ap (λ r. v.posted ++ r) (sym none);
  seen = λ s at. subst (λ (u : View). In s u.seen) (sym is) (in_left s v.seen ((l, a) ∷ []) at);
  count = ap (λ (u : View). u.count) is;
  beaten = λ b. inr (below b);
}

step_of : (won : Bool) (l ii : ℕ) (v w : View) (found : Found) → TakesOrPasses won l ii v found w → OneStep won l ii v w found
step_of true l ii v w found h = record {
  drawn = ap (λ (u : View). u.drawn) h.1;
  posted = ap (λ (u : View). u.posted) h.1 ∙ sym (append-nil v.posted) ∙ ap (λ f. v.posted ++ won_of (entry_of l ii f ∷ [])) (sym h.0);
  seen = λ s at. subst (λ (u : View). In s u.seen) (sym h.1) at;
  count = ap (λ (u : View). u.count) h.1;
  beaten = λ b. inl is_true;
}
  where
    is_true : IsTrue true
    is_true = refl
step_of false l ii v w Beaten h = looked l ii v w Beaten (Some h.0) h.1 refl (λ b. record {
  interval = h.0;
  seen = subst (λ (u : View). In (l, Some h.0) u.seen) (sym h.1) (in_right (l, Some h.0) v.seen ((l, Some h.0) ∷ []) (inl refl));
  lower = h.2;
})
step_of false l ii v w (Failed c) h = looked l ii v w (Failed c) h.0 h.1 refl (λ b. absurd (false≢true (ap is_beaten b)))
step_of false l ii v w Unsettled h = looked l ii v w Unsettled h.0 h.1 refl (λ b. absurd (false≢true (ap is_beaten b)))
step_of false l ii v w (Won k) h = record {
  drawn = ap (λ (u : View). u.drawn) h.1;
  posted = ap (λ (u : View). u.posted) h.1;
  seen = λ s at. subst (λ (u : View). In s u.seen) (sym h.1) (in_left s v.seen ((l, h.0) ∷ []) at);
  count = ap (λ (u : View). u.count) h.1;
  beaten = λ b. absurd (false≢true (ap is_beaten b));
}

-- both reasons to be beaten stay true when lists grow
pub beaten_still : (v w : View) (es more : List Entry) (e : Entry) → ((s : ℕ × Option ℕ) → In s v.seen → In s w.seen) → IsBeatenRightly v es e → IsBeatenRightly w (es ++ more) e
beaten_still v w es more e grows rightly b = ⊎_elim
    (λ (a : HasLowerAnswer v e). inl (record { interval = a.interval; seen = grows (e.loop_number, Some a.interval) a.seen; lower = a.lower }))
    (λ (a : HasLowerWin es e). inr (record {
      interval = a.interval;
      won = subst (λ ps. In (e.loop_number, a.interval) ps) (sym (won-append es more)) (in_left (e.loop_number, a.interval) (won_of es) (won_of more) a.won);
      lower = a.lower;
    }))
    (rightly b)

-- a lower interval of the loop was won by the new entries
abbrev pub WonBelow : Bool → ℕ → ℕ → List Entry → Type 0
WonBelow won l ii new = IsTrue won → (a : ℕ) × In (l, a) (won_of new) × (a < ii)

gains_more : (won : Bool) (l ii : ℕ) (v w u : View) (before new : List Entry) (found : Found) → ViewGains v w (before ++ new) new → WonBelow won l ii new
    → OneStep won l ii w u found → ViewGains v u (before ++ (new ++ entry_of l ii found ∷ [])) (new ++ entry_of l ii found ∷ [])
gains_more won l ii v w u before new found g below s = record {
  drawn = s.drawn ∙ g.drawn;
  posted = s.posted ∙ ap (λ r. r ++ won_of last) g.posted ∙ append-assoc v.posted (won_of new) (won_of last) ∙ ap (λ r. v.posted ++ r) (sym (won-append new last));
  seen = λ x at. s.seen x (g.seen x at);
  count = s.count ∙ g.count;
  beaten = λ x at. ⊎_elim (λ (old : In x new). subst (λ es. IsBeatenRightly u es x) same (beaten_still w u (before ++ new) last x s.seen (g.beaten x old)))
      (λ (here : In x last). ⊎_elim (λ (is : e ≡ x). subst (IsBeatenRightly u (before ++ (new ++ last))) is mine) (λ (no : ⊥). absurd no) here)
      (in_append x new last at);
}
  where
    e : Entry
    e = entry_of l ii found

    last : List Entry
    last = e ∷ []

    same : (before ++ new) ++ last ≡ before ++ (new ++ last)
    same = append-assoc before new last

    mine : IsBeatenRightly u (before ++ (new ++ last)) e
    mine b = ⊎_elim
        (λ (w : IsTrue won). let k = below w in inr (record {
          interval = k.0;
          won = subst (λ ps. In (l, k.0) ps) (sym (won-append before (new ++ last)))
              (in_right (l, k.0) (won_of before) (won_of (new ++ last)) (subst (λ ps. In (l, k.0) ps) (sym (won-append new last)) (in_left (l, k.0) (won_of new) (won_of last) k.1)));
          lower = k.2;
        }))
        (λ (a : HasLowerAnswer u e). inl a)
        (s.beaten b)

still_below : (won : Bool) (l ii : ℕ) (new : List Entry) (found : Found) → WonBelow won l ii new → WonBelow (won || is_won found) l (ii + 1) (new ++ entry_of l ii found ∷ [])
still_below true l ii new found below t =
    let k = below t in
    (k.0, subst (λ ps. In (l, k.0) ps) (sym (won-append new (entry_of l ii found ∷ []))) (in_left (l, k.0) (won_of new) (won_of (entry_of l ii found ∷ [])) k.1), let less = k.2 in omega arith)
still_below false l ii new (Won k) below t =
    (ii, subst (λ ps. In (l, ii) ps) (sym (won-append new (entry_of l ii (Won k) ∷ []))) (in_right (l, ii) (won_of new) ((l, ii) ∷ []) (inl refl)), omega arith)
still_below false l ii new (Failed c) below t = absurd (false≢true t)
still_below false l ii new Beaten below t = absurd (false≢true t)
still_below false l ii new Unsettled below t = absurd (false≢true t)

-- a piece, `count` intervals of it entered, and whether one of them was won
pub record Halfway (tells : Bool) (v w : View) (l start count : ℕ) (won : Bool) (before now : ReportData) : Type 0 where
  pub adds : Adds tells v w l start count before now
  pub below : WonBelow won l (mii_at before.loops l + (start + count)) adds.new

pub halfway_on : (tells : Bool) (v w u : View) (l start count : ℕ) (won wins : Bool) (before now next : ReportData) → now.loops ≡ before.loops → Halfway tells v w l start count won before now
    → EntersOne tells w u l (mii_at now.loops l + (start + count)) won wins now next → Halfway tells v u l start (suc count) wins before next
halfway_on tells v w u l start count won wins before now next same h e = record {
  adds = record {
    new = a.new ++ last;
    entries = all;
    lost = e.enters.same_lost ∙ a.lost;
    places = map-append entry_place a.new last ∙ ap (λ r. r ++ (l, mii_at now.loops l + (start + count)) ∷ []) a.places
        ∙ ap (λ ps. map place (from_on start count) ++ (l, mii_at ps l + (start + count)) ∷ []) same
        ∙ sym (map-append place (from_on start count) ((start + count) ∷ [])) ∙ ap (map place) (sym (from_on-snoc start count));
    gains = λ t. subst (λ es. ViewGains v u es (a.new ++ last)) (sym all)
        (gains_more won l ii v w u before.entries a.new e.found (subst (λ es. ViewGains v w es a.new) a.entries (a.gains t)) low (step_of won l ii w u e.found (e.told t)));
  };
  below = subst (λ b. WonBelow b l (mii_at before.loops l + (start + suc count)) (a.new ++ last)) (sym e.is_won)
      (subst (λ k. WonBelow (won || is_won e.found) l k (a.new ++ last)) next_one (still_below won l ii a.new e.found low));
}
  where
    a : Adds tells v w l start count before now
    a = h.adds

    ii : ℕ
    ii = mii_at now.loops l + (start + count)

    last : List Entry
    last = entry_of l ii e.found ∷ []

    place : ℕ → ℕ × ℕ
    place above = (l, mii_at before.loops l + above)

    all : next.entries ≡ before.entries ++ (a.new ++ last)
    all = e.enters.entries ∙ ap (λ es. es ++ last) a.entries ∙ append-assoc before.entries a.new last

    low : WonBelow won l ii a.new
    low = subst (λ ps. WonBelow won l (mii_at ps l + (start + count)) a.new) (sym same) h.below

    shift : (m s c : ℕ) → m + (s + c) + 1 ≡ m + (s + suc c)
    shift m s c = omega arith

    next_one : ii + 1 ≡ mii_at before.loops l + (start + suc count)
    next_one = ap (λ ps. mii_at ps l + (start + count) + 1) same ∙ shift (mii_at before.loops l) start count
