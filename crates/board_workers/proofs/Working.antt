-- What the draws and turns of a worker come to.
use Rattle.std.proofs.Common.{◌≡◌, ℕ, ◌+◌, ◌-◌, ◌<◌, ◌≤◌, ⊎_elim, Bool, true, false, if◌then◌else◌, List, [], ◌∷◌, ◌++◌, map, filter, length, sym, refl, ap, ◌∙◌, subst, arith}
use Rattle.std.specs.Prelude.{Option, Some, None, IsTrue, MatchBool, nat_lt}
use Rattle.std.specs.List.{All, AllPairs, flat_map}
use Rattle.std.proofs.lemmas.Bool.{MatchBool-at_false}
use Rattle.std.proofs.lemmas.Bool.Decides.{nat_tests}
use Rattle.board.specs.declared.view.View.{View}
use Rattle.board.specs.Views.{is_dry, beyond, Draws, DrawsUnlessDry}
use Rattle.board.specs.Rule.{occurrences}
use Rattle.board.specs.Drawing.{DrewPieces}
use Rattle.board.proofs.Drawing.{wet, draws_count, draws_ascend, draws_end}
use Rattle.board.proofs.Totals.{beyond-append, occurrences-append}
use Rattle.loop_listings.specs.Pieces.{PiecesData, piece_count, loop_of_piece, start_of_piece, end_of_piece}
use Rattle.reports.specs.declared.entry.Entry.{Entry}
use Rattle.reports.specs.Entries.{ReportData, In, entry_place, won_of}
use Rattle.board_workers.specs.Worked.{IsBeatenRightly, Covers, WorkedAs, IsUnused, places_of, drawn_pieces}
use Rattle.board_workers.specs.inner.Turns.{ViewGains, Adds, Loses, Turned}
use Rattle.board_workers.proofs.Turning.{append-nil, append-assoc, map-append, won-append, in_append, beaten_still}

times_in : (p n number : ℕ) (xs : List ℕ) → n < number → occurrences p (filter (λ x. nat_lt x number) (xs ++ n ∷ [])) ≡ occurrences p (filter (λ x. nat_lt x number) xs) + occurrences p (n ∷ [])
times_in p n number [] near = grind (arith, nat_tests)
times_in p n number (x ∷ xs) near = let r = times_in p n number xs near in grind (arith, nat_tests)

times_out : (p n number : ℕ) (xs : List ℕ) → number ≤ n → occurrences p (filter (λ x. nat_lt x number) (xs ++ n ∷ [])) ≡ occurrences p (filter (λ x. nat_lt x number) xs)
times_out p n number [] past = grind (arith, nat_tests)
times_out p n number (x ∷ xs) past = let r = times_out p n number xs past in grind (arith, nat_tests)

flat-append : {X Y : Type 0} (f : X → List Y) (xs ys : List X) → flat_map f (xs ++ ys) ≡ flat_map f xs ++ flat_map f ys
flat-append f [] ys = refl
flat-append f (x ∷ xs) ys = ap (λ r. f x ++ r) (flat-append f xs ys) ∙ sym (append-assoc (f x) (flat_map f xs) (flat_map f ys))

length-snoc : {X : Type 0} (xs : List X) (x : X) → length (xs ++ x ∷ []) ≡ length xs + 1
length-snoc [] x = refl
length-snoc (y ∷ xs) x = let r = length-snoc xs x in omega arith

same_draws : (pieces : ℕ) (u w : View) → w.drawn ≡ u.drawn → DrewPieces pieces u → DrewPieces pieces w
same_draws pieces u w same d = record {
  ascending = subst (AllPairs (λ x y. x < y)) (sym same) d.ascending;
  inside = subst (All (λ x. x < pieces)) (sym same) d.inside;
}

pub record WorkedSoFar (pieces : PiecesData) (v : View) (report : ReportData) (k : ℕ) : Type 0 where
  pub worked : WorkedAs pieces v report
  pub drew : length v.drawn ≡ k
  pub draws : DrewPieces (piece_count pieces) v
  pub few : length v.drawn ≤ piece_count pieces

pub worked_none : (pieces : PiecesData) (v : View) (report : ReportData) → IsUnused v → report.entries ≡ [] → report.lost ≡ 0 → report.dry ≡ false → WorkedSoFar pieces v report 0
worked_none pieces v report un none lost dry = record {
  worked = record {
    covers = record {
      kept = [];
      skipped = [];
      each = λ p. sym (ap (λ xs. occurrences p (filter (λ n. nat_lt n (piece_count pieces)) xs)) un.drawn);
      lost = lost;
      entries = ap (map entry_place) none;
    };
    posted = un.posted ∙ sym (ap won_of none);
    beaten = λ e at. absurd (subst (In e) none at);
    dry = dry ∙ sym (ap (λ xs. nat_lt 0 (beyond (piece_count pieces) xs)) un.drawn);
  };
  drew = ap length un.drawn;
  draws = record {
    ascending = subst (AllPairs (λ x y. x < y)) (sym un.drawn) (λ i j d lt near. absurd (omega arith));
    inside = subst (All (λ x. x < piece_count pieces)) (sym un.drawn) (λ k d near. absurd (omega arith));
  };
  few = subst (λ xs. length xs ≤ piece_count pieces) (sym un.drawn) (omega arith);
}

module _ (pieces : PiecesData) (n : ℕ) (near : n < piece_count pieces) (v w : View) (before after : ReportData) (loops : after.loops ≡ before.loops) (drawn : w.drawn ≡ v.drawn ++ n ∷ []) (worked : WorkedAs pieces v before) where
  tally : (p : ℕ) → occurrences p (drawn_pieces (piece_count pieces) w) ≡ occurrences p (drawn_pieces (piece_count pieces) v) + occurrences p (n ∷ [])
  tally p = ap (λ xs. occurrences p (filter (λ x. nat_lt x (piece_count pieces)) xs)) drawn ∙ times_in p n (piece_count pieces) v.drawn near

  covers_added : (new : List Entry) → after.entries ≡ before.entries ++ new → after.lost ≡ before.lost → map entry_place new ≡ places_of before.loops pieces n → Covers pieces w after
  covers_added new entries lost places = record {
    kept = c.kept ++ n ∷ [];
    skipped = c.skipped;
    each = λ p. let a = c.each p in let b = tally p in let d = occurrences-append p c.kept (n ∷ []) in omega arith;
    lost = lost ∙ c.lost;
    entries = ap (map entry_place) entries ∙ map-append entry_place before.entries new ∙ ap (λ r. map entry_place before.entries ++ r) places
        ∙ ap (λ r. r ++ places_of before.loops pieces n) c.entries
        ∙ ap (λ r. flat_map (places_of before.loops pieces) c.kept ++ r) (sym (append-nil (places_of before.loops pieces n)))
        ∙ sym (flat-append (places_of before.loops pieces) c.kept (n ∷ []))
        ∙ ap (λ ps. flat_map (places_of ps pieces) (c.kept ++ n ∷ [])) (sym loops);
  }
    where
      c : Covers pieces v before
      c = worked.covers

  covers_lost : after.entries ≡ before.entries → after.lost ≡ before.lost + 1 → Covers pieces w after
  covers_lost entries lost = record {
    kept = c.kept;
    skipped = c.skipped ++ n ∷ [];
    each = λ p. let a = c.each p in let b = tally p in let d = occurrences-append p c.skipped (n ∷ []) in omega arith;
    lost = lost ∙ ap (λ k. k + 1) c.lost ∙ sym (length-snoc c.skipped n);
    entries = ap (map entry_place) entries ∙ c.entries ∙ ap (λ ps. flat_map (places_of ps pieces) c.kept) (sym loops);
  }
    where
      c : Covers pieces v before
      c = worked.covers

-- a piece drawn and turned
pub worked_on : (tells : Bool) (pieces : PiecesData) (n : ℕ) (v u w : View) (before after : ReportData) (k : ℕ) → IsTrue tells → WorkedSoFar pieces v before k
    → DrawsUnlessDry (piece_count pieces) v (Some n) u → n < piece_count pieces
    → Turned tells u w (loop_of_piece pieces n) (start_of_piece pieces n) (end_of_piece pieces n - start_of_piece pieces n) before after
    → after.loops ≡ before.loops → after.dry ≡ false → WorkedSoFar pieces w after (k + 1)
worked_on tells pieces n v u w before after k t so told near turned loops dry = ⊎_elim
    (λ (a : Adds tells u w (loop_of_piece pieces n) (start_of_piece pieces n) (end_of_piece pieces n - start_of_piece pieces n) before after).
    let g : ViewGains u w after.entries a.new = a.gains t in
    let drew : w.drawn ≡ u.drawn = g.drawn in
    let up : DrewPieces (piece_count pieces) w = same_draws (piece_count pieces) u w drew above in
    record {
      worked = record {
        covers = covers_added pieces n near v w before after loops (drew ∙ drawn_is) so.worked a.new a.entries a.lost a.places;
        posted = g.posted ∙ ap (λ r. r ++ won_of a.new) (posted_is ∙ so.worked.posted) ∙ sym (won-append before.entries a.new) ∙ ap won_of (sym a.entries);
        beaten = λ e at. ⊎_elim
            (λ (old : In e before.entries). subst (λ es. IsBeatenRightly w es e) (sym a.entries)
            (beaten_still v w before.entries a.new e (λ s at. g.seen s (seen_is s at)) (so.worked.beaten e old)))
            (λ (fresh : In e a.new). g.beaten e fresh)
            (in_append e before.entries a.new (subst (In e) a.entries at));
        dry = dry ∙ sym (wet (piece_count pieces) w up);
      };
      drew = ap length drew ∙ draws_count (piece_count pieces) v u (Some n) so.draws told ∙ ap (λ m. m + 1) so.drew;
      draws = up;
      few = draws_end (piece_count pieces) w up;
    })
    (λ (l : Loses u w before after).
    let drew : w.drawn ≡ u.drawn = ap (λ (x : View). x.drawn) l.same_view in
    let up : DrewPieces (piece_count pieces) w = same_draws (piece_count pieces) u w drew above in
    record {
      worked = record {
        covers = covers_lost pieces n near v w before after loops (drew ∙ drawn_is) so.worked l.entries l.lost;
        posted = ap (λ (x : View). x.posted) l.same_view ∙ posted_is ∙ so.worked.posted ∙ ap won_of (sym l.entries);
        beaten = λ e at. subst (λ es. IsBeatenRightly w es e) (append-nil before.entries ∙ sym l.entries)
            (beaten_still v w before.entries [] e (λ s at. subst (λ (x : View). In s x.seen) (sym l.same_view) (seen_is s at)) (so.worked.beaten e (subst (In e) l.entries at)));
        dry = dry ∙ sym (wet (piece_count pieces) w up);
      };
      drew = ap length drew ∙ draws_count (piece_count pieces) v u (Some n) so.draws told ∙ ap (λ m. m + 1) so.drew;
      draws = up;
      few = draws_end (piece_count pieces) w up;
    })
    turned
  where
    d : Draws (piece_count pieces) v (Some n) u
    d = MatchBool-at_false ((u ≡ v) × (Some n ≡ None)) (Draws (piece_count pieces) v (Some n) u) (wet (piece_count pieces) v so.draws) told

    above : DrewPieces (piece_count pieces) u
    above = draws_ascend (piece_count pieces) v u (Some n) so.draws told refl

    same_number : d.0 ≡ n
    same_number = number_is (piece_count pieces) n d.0 d.3
      where
        number_is : (pieces n m : ℕ) → Some n ≡ (if nat_lt m pieces then Some m else None) → m ≡ n
        number_is pieces n m h = grind (arith, nat_tests)

    drawn_is : u.drawn ≡ v.drawn ++ n ∷ []
    drawn_is = ap (λ (x : View). x.drawn) d.1 ∙ ap (λ m. v.drawn ++ m ∷ []) same_number

    posted_is : u.posted ≡ v.posted
    posted_is = ap (λ (x : View). x.posted) d.1

    seen_is : (s : ℕ × Option ℕ) → In s v.seen → In s u.seen
    seen_is s at = subst (λ (x : View). In s x.seen) (sym d.1) at

abbrev nothing : Option ℕ
nothing = None

-- the draws and turns change nothing of the parts
pub count_drawn : (pieces : ℕ) (v u : View) (a : Option ℕ) → DrawsUnlessDry pieces v a u → u.count ≡ v.count
count_drawn pieces v u a told = go (is_dry pieces v) told
  where
    go : (b : Bool) → MatchBool b ((u ≡ v) × (a ≡ None)) (Draws pieces v a u) → u.count ≡ v.count
    go true h = ap (λ (x : View). x.count) h.0
    go false h = ap (λ (x : View). x.count) h.1

pub count_turned : (tells : Bool) (u w : View) (l start count : ℕ) (before after : ReportData) → IsTrue tells → Turned tells u w l start count before after → w.count ≡ u.count
count_turned tells u w l start count before after t turned = ⊎_elim (λ (a : Adds tells u w l start count before after). (a.gains t).count)
    (λ (l : Loses u w before after). ap (λ (x : View). x.count) l.same_view) turned

pub lost_turned : (tells : Bool) (u w : View) (l start count : ℕ) (before after : ReportData) → Turned tells u w l start count before after → after.lost ≤ before.lost + 1
lost_turned tells u w l start count before after turned = ⊎_elim (λ (a : Adds tells u w l start count before after). let k = a.lost in omega arith)
    (λ (l : Loses u w before after). let k = l.lost in omega arith) turned

-- nothing is left to draw
pub worked_dry : (pieces : PiecesData) (v u : View) (before after : ReportData) (k : ℕ) → WorkedSoFar pieces v before k → DrawsUnlessDry (piece_count pieces) v None u
    → after.loops ≡ before.loops → after.entries ≡ before.entries → after.lost ≡ before.lost → after.dry ≡ true → WorkedAs pieces u after
worked_dry pieces v u before after k so told loops entries lost dry = record {
  covers = record {
    kept = c.kept;
    skipped = c.skipped;
    each = λ p. c.each p ∙ sym (ap (λ xs. occurrences p (filter (λ x. nat_lt x (piece_count pieces)) xs)) drawn_is ∙ times_out p d.0 (piece_count pieces) v.drawn past);
    lost = lost ∙ c.lost;
    entries = ap (map entry_place) entries ∙ c.entries ∙ ap (λ ps. flat_map (places_of ps pieces) c.kept) (sym loops);
  };
  posted = ap (λ (x : View). x.posted) d.1 ∙ so.worked.posted ∙ ap won_of (sym entries);
  beaten = λ e at. subst (λ es. IsBeatenRightly u es e) (append-nil before.entries ∙ sym entries)
      (beaten_still v u before.entries [] e (λ s at. subst (λ (x : View). In s x.seen) (sym d.1) at) (so.worked.beaten e (subst (In e) entries at)));
  dry = dry ∙ sym (ap (λ xs. nat_lt 0 (beyond (piece_count pieces) xs)) drawn_is ∙ wet_no_more (piece_count pieces) d.0 v.drawn past);
}
  where
    d : Draws (piece_count pieces) v None u
    d = MatchBool-at_false ((u ≡ v) × (None ≡ None)) (Draws (piece_count pieces) v None u) (wet (piece_count pieces) v so.draws) told

    c : Covers pieces v before
    c = so.worked.covers

    past : piece_count pieces ≤ d.0
    past = out (piece_count pieces) d.0 d.3
      where
        out : (pieces m : ℕ) → nothing ≡ (if nat_lt m pieces then Some m else None) → pieces ≤ m
        out pieces m h = grind (arith, nat_tests)

    drawn_is : u.drawn ≡ v.drawn ++ d.0 ∷ []
    drawn_is = ap (λ (x : View). x.drawn) d.1

    wet_no_more : (pieces m : ℕ) (xs : List ℕ) → pieces ≤ m → nat_lt 0 (beyond pieces (xs ++ m ∷ [])) ≡ true
    wet_no_more pieces m xs past = let r = beyond-append pieces xs (m ∷ []) in grind (arith, nat_tests)

pub turned_at : (tells : Bool) (u w : View) (before after : ReportData) (l m s k e f : ℕ) → l ≡ m → s ≡ k → e ≡ f → Turned tells u w l s (e - s) before after → Turned tells u w m k (f - k) before after
turned_at tells u w before after l m s k e f is start end h =
    subst (λ x. Turned tells u w m k (x - k) before after) end (subst (λ x. Turned tells u w m x (e - x) before after) start (subst (λ x. Turned tells u w x s (e - s) before after) is h))
