-- Nothing is left to try.
use Rattle.std.proofs.Common.{◌≡◌, ℕ, zero, suc, ◌+◌, ◌-◌, ◌<◌, ◌≤◌, ◌⊎◌, inl, inr, ⊎_elim, true, false, if◌then◌else◌, List, [], ◌∷◌, filter, length, sym, refl, ap, ◌∙◌, subst, arith}
use Rattle.std.specs.Prelude.{◌||◌, Bool, nat_lt, Option, Some, None, All, slice_get}
use Rattle.std.specs.List.{flat_map, AllZip, list_any}
use Rattle.std.proofs.lemmas.Bool.Decides.{nat_tests}
use Rattle.board.specs.declared.view.View.{View}
use Rattle.board.specs.declared.view.Terms.{Terms}
use Rattle.board.proofs.Drawing.{nothing_left}
use Rattle.board.specs.Rule.{total, occurrences, times_posted, times_drawn, IsPosted, IsTrueAnswer, IsLeastPosted, least_of}
use Rattle.std.proofs.lemmas.Bool.{cases_lt, false≢true}
use Rattle.std.proofs.Common.{add-zero, zero-add}
use Rattle.std.proofs.lemmas.Option.{slice_get_within}
use Rattle.std.proofs.Math.Numerals.{add-one}
use Rattle.loop_listings.specs.Pieces.{PiecesData, piece_count}
use Rattle.loop_schedules.specs.Problems.{ProblemData}
use Rattle.reports.specs.declared.entry.Entry.{Entry}
use Rattle.reports.specs.declared.entry.Found.{Found}
use Rattle.reports.specs.declared.entry.Found.TheVariants.{Won, Failed, Beaten, Unsettled}
use Rattle.reports.specs.Entries.{In, ReportData, won_of, with_won, entry_place, settles, is_settled, is_settled_in, mii_at, is_won}
use Rattle.board_workers.specs.Worked.{WorkedAs, Covers, HasLowerAnswer, HasLowerWin, places_of}
use Rattle.reports.specs.Gathered.{missing_in}
use Rattle.board_workers.proofs.Members.{in_flat, map_in, times_in, in_places}
use Rattle.loop_listings.proofs.Covering.{some_piece}
use Rattle.board_workers.proofs.Open.{IsTrueFound, IsLeastWin, IsChosen, tried_up, retried_up, IsSettled}

-- a report whose view is in the list, and one whose report is
find_view : (f : View → ℕ) (pieces : PiecesData) (views : List View) (reports : List ReportData) → AllZip (WorkedAs pieces) views reports
    → 0 < total f views → (v : View) × (r : ReportData) × WorkedAs pieces v r × In r reports × (0 < f v) × In v views
find_view f pieces [] [] w h = absurd (omega arith)
find_view f pieces [] (r ∷ rs) w h = absurd w
find_view f pieces (v ∷ vs) [] w h = absurd w
find_view f pieces (v ∷ vs) (r ∷ rs) w h = ⊎_elim
    (λ (here : 0 < f v). (v, r, w.0, inl refl, here, inl refl))
    (λ (later : 0 < total f vs). let k = find_view f pieces vs rs w.1 later in (k.0, k.1, k.2, inr k.3, k.4, inr k.5))
    (one_of (f v) (total f vs) h)
  where
    one_of : (a b : ℕ) → 0 < a + b → (0 < a) ⊎ (0 < b)
    one_of zero b h = inr (omega arith)
    one_of (suc a) b h = inl (omega arith)

-- a number that was drawn once and is a piece's stands among the pieces drawn
times_filter : (p number : ℕ) (xs : List ℕ) → p < number → occurrences p (filter (λ n. nat_lt n number) xs) ≡ occurrences p xs
times_filter p number [] near = refl
times_filter p number (x ∷ xs) near = let r = times_filter p number xs near in grind (arith, nat_tests)

kept_all : (pieces : PiecesData) (v : View) (r : ReportData) (c : Covers pieces v r) → r.lost ≡ 0 → (p : ℕ) → p < piece_count pieces → 0 < occurrences p v.drawn → In p c.kept
kept_all pieces v r c none p near drawn =
    let e = c.each p in
    let f = times_filter p (piece_count pieces) v.drawn near in
    let lost = c.lost in
    let few : occurrences p c.skipped ≤ length c.skipped = few_times p c.skipped in
    times_in p c.kept (omega arith)
  where
    few_times : (p : ℕ) (xs : List ℕ) → occurrences p xs ≤ length xs
    few_times p [] = omega arith
    few_times p (x ∷ xs) = let r = few_times p xs in grind (arith, nat_tests)

-- what was won stands in an entry
won_entry : (place : ℕ × ℕ) (es : List Entry) → In place (won_of es) → (e : Entry) × In e es × (is_won e.found ≡ true) × (entry_place e ≡ place)
won_entry place [] h = absurd h
won_entry place (e ∷ es) h = go (λ k. won_entry place es k) e.found refl h
  where
    go : (In place (won_of es) → (x : Entry) × In x es × (is_won x.found ≡ true) × (entry_place x ≡ place)) → (f : Found) → e.found ≡ f → In place (with_won f (entry_place e) (won_of es)) → (x : Entry) × In x (e ∷ es) × (is_won x.found ≡ true) × (entry_place x ≡ place)
    go rest (Won k) is h = ⊎_elim (λ (here : entry_place e ≡ place). (e, inl refl, ap is_won is, here)) (λ (r : In place (won_of es)). let k = rest r in (k.0, inr k.1, k.2, k.3)) h
    go rest Beaten is h = let k = rest h in (k.0, inr k.1, k.2, k.3)
    go rest (Failed c) is h = let k = rest h in (k.0, inr k.1, k.2, k.3)
    go rest Unsettled is h = let k = rest h in (k.0, inr k.1, k.2, k.3)

entry_won : (e : Entry) (es : List Entry) → In e es → is_won e.found ≡ true → In (entry_place e) (won_of es)
entry_won e [] h is = absurd h
entry_won e (x ∷ es) h is = ⊎_elim (λ (here : x ≡ e). mine x.found (ap (λ (u : Entry). is_won u.found) here ∙ is) (ap entry_place here))
    (λ (r : In e es). later x.found (entry_won e es r is)) h
  where
    mine : (f : Found) → is_won f ≡ true → entry_place x ≡ entry_place e → In (entry_place e) (with_won f (entry_place x) (won_of es))
    mine (Won k) w same = inl same
    mine Beaten w same = absurd (false≢true w)
    mine (Failed c) w same = absurd (false≢true w)
    mine Unsettled w same = absurd (false≢true w)

    later : (f : Found) → In (entry_place e) (won_of es) → In (entry_place e) (with_won f (entry_place x) (won_of es))
    later (Won w) k = inr k
    later Beaten k = k
    later (Failed c) k = k
    later Unsettled k = k

posted_in : (l ii : ℕ) (ps : List (ℕ × ℕ)) → 0 < times_posted l ii ps → In (l, ii) ps
posted_in l ii [] h = absurd (omega arith)
posted_in l ii (p ∷ ps) h = ⊎_elim (λ (here : (p.0 ≡ l) × (p.1 ≡ ii)). inl (pair p here.0 here.1)) (λ (r : 0 < times_posted l ii ps). inr (posted_in l ii ps r)) (split p ps h)
  where
    pair : (p : ℕ × ℕ) → p.0 ≡ l → p.1 ≡ ii → p ≡ (l, ii)
    pair p a b = λ i. (a i, b i)

    split : (p : ℕ × ℕ) (ps : List (ℕ × ℕ)) → 0 < times_posted l ii (p ∷ ps) → ((p.0 ≡ l) × (p.1 ≡ ii)) ⊎ (0 < times_posted l ii ps)
    split p ps h = grind (arith, nat_tests)

in_posted : (l ii : ℕ) (ps : List (ℕ × ℕ)) → In (l, ii) ps → 0 < times_posted l ii ps
in_posted l ii [] h = absurd h
in_posted l ii (p ∷ ps) h = ⊎_elim (λ (here : p ≡ (l, ii)). let a : p.0 ≡ l = ap (λ (q : ℕ × ℕ). q.0) here in let b : p.1 ≡ ii = ap (λ (q : ℕ × ℕ). q.1) here in grind (arith, nat_tests))
    (λ (r : In (l, ii) ps). let k = in_posted l ii ps r in omega arith) h

total_some : (f : View → ℕ) (pieces : PiecesData) (views : List View) (reports : List ReportData) (r : ReportData) → AllZip (WorkedAs pieces) views reports → In r reports
    → ((v : View) → WorkedAs pieces v r → 0 < f v) → 0 < total f views
total_some f pieces [] [] r w h some = absurd h
total_some f pieces [] (x ∷ rs) r w h some = absurd w
total_some f pieces (v ∷ vs) [] r w h some = absurd w
total_some f pieces (v ∷ vs) (x ∷ rs) r w h some = ⊎_elim
    (λ (here : x ≡ r). let k = some v (subst (λ u. WorkedAs pieces v u) here w.0) in omega arith)
    (λ (later : In r rs). let k = total_some f pieces vs rs r w.1 later some in omega arith) h

pub all_in : {X : Type 0} (P : X → Type 0) (x : X) (xs : List X) → All P xs → In x xs → P x
all_in P x [] h at = absurd at
all_in {X} P x (y ∷ xs) h at = ⊎_elim (λ (is : y ≡ x). subst P is (h 0 x (omega arith))) (λ (r : In x xs). all_in P x xs (λ k d near. h (suc k) d (omega arith)) r) at

any_in : {X : Type 0} (p : X → Bool) (x : X) (xs : List X) → In x xs → p x ≡ true → list_any p xs ≡ true
any_in p x [] at is = absurd at
any_in {X} p x (y ∷ xs) at is = ⊎_elim (λ (here : y ≡ x). subst (λ b. (b || list_any p xs) ≡ true) (sym (ap p here ∙ is)) refl)
    (λ (r : In x xs). either_way (p y) (list_any p xs) (any_in p x xs r is)) at
  where
    either_way : (a b : Bool) → b ≡ true → (a || b) ≡ true
    either_way true b h = refl
    either_way false b h = h

-- an interval up to the choice
abbrev IsTried : ℕ → Option ℕ → ℕ → Type 0
IsTried l None ii = Unit {0}
IsTried l (Some i) ii = ii ≤ i

abbrev is_failed : Found → Bool
is_failed (Failed c) = true
is_failed _ = false

won_here : (f : Found) → is_settled f ≡ true → (is_failed f ≡ true → ⊥) → is_won f ≡ true
won_here (Won k) s never = refl
won_here (Failed c) s never = absurd (never refl)
won_here Beaten s never = absurd (false≢true s)
won_here Unsettled s never = absurd (false≢true s)

won_true : (wins fails : ℕ → ℕ → Type 0) (f : Found) (l ii : ℕ) → is_won f ≡ true → IsTrueFound wins fails f l ii → wins l ii
won_true wins fails (Won k) l ii is t = t
won_true wins fails Beaten l ii is t = absurd (false≢true is)
won_true wins fails (Failed c) l ii is t = absurd (false≢true is)
won_true wins fails Unsettled l ii is t = absurd (false≢true is)

failed_true : (wins fails : ℕ → ℕ → Type 0) (f : Found) (l ii : ℕ) → is_failed f ≡ true → IsTrueFound wins fails f l ii → fails l ii
failed_true wins fails (Failed c) l ii is t = t
failed_true wins fails (Won k) l ii is t = absurd (false≢true is)
failed_true wins fails Beaten l ii is t = absurd (false≢true is)
failed_true wins fails Unsettled l ii is t = absurd (false≢true is)

module _ (wins fails : ℕ → ℕ → Type 0) (ps : List ProblemData) (pieces : PiecesData) (terms : Terms) (words : List ℕ) (views : List View) (reports : List ReportData)
    (h : IsSettled wins fails ps pieces terms words views reports) where
  -- a loop wins at an interval that is tried
  record Wins (l ii : ℕ) : Type 0 where
    from_mii : mii_at ps l ≤ ii
    to_ceiling : ii ≤ mii_at ps l + pieces.ceiling
    win : wins l ii

  won_wins : (r : ReportData) → In r reports → (l ii : ℕ) → In (l, ii) (won_of r.entries) → Wins l ii
  won_wins r at l ii is =
      let k = won_entry (l, ii) r.entries is in
      let e : Entry = k.0 in
      let there = (h.whole r at).entries e k.1 in
      let a : e.loop_number ≡ l = ap (λ (q : ℕ × ℕ). q.0) k.3 in
      let b : e.interval ≡ ii = ap (λ (q : ℕ × ℕ). q.1) k.3 in
      let w : wins e.loop_number e.interval = won_true wins fails e.found e.loop_number e.interval k.2 there.truth in
      let v : wins l ii = subst (λ m. wins m ii) a (subst (λ m. wins e.loop_number m) b w) in
      let low : mii_at ps l ≤ ii = subst (λ m. mii_at ps m ≤ ii) a (subst (λ m. mii_at ps e.loop_number ≤ m) b there.from_mii) in
      let high : ii ≤ mii_at ps l + pieces.ceiling = subst (λ m. ii ≤ mii_at ps m + pieces.ceiling) a (subst (λ m. m ≤ mii_at ps e.loop_number + pieces.ceiling) b there.to_ceiling) in
      record { from_mii = low; to_ceiling = high; win = v }

  posted_wins : (l ii : ℕ) → IsPosted views l ii → Wins l ii
  posted_wins l ii is =
      let k = find_view (λ (v : View). times_posted l ii v.posted) pieces views reports h.worked is in
      let r : ReportData = k.1 in
      let at : In (l, ii) (won_of r.entries) = subst (λ ps. In (l, ii) ps) k.2.posted (posted_in l ii k.0.posted k.4) in
      won_wins r k.3 l ii at

  -- the entry of an interval
  record HasEntry (l ii : ℕ) : Type 0 where
    report : ReportData
    listed : In report reports
    view : View
    seen : In view views
    worked : WorkedAs pieces view report
    entry : Entry
    entered : In entry report.entries
    its_loop : entry.loop_number ≡ l
    its_interval : entry.interval ≡ ii

  has_entry : (l above : ℕ) → l < pieces.loops → above ≤ pieces.ceiling → HasEntry l (mii_at ps l + above)
  has_entry l above near few =
      let piece = some_piece pieces l above h.cutting near few in
      let p : ℕ = piece.0 in
      let inside : p < terms.pieces = subst (λ n. p < n) (sym h.same_pieces) piece.1.there in
      let once : times_drawn views p ≡ 1 = nothing_left terms words views h.rule h.dry p inside in
      let k = find_view (λ (v : View). occurrences p v.drawn) pieces views reports h.worked (omega arith) in
      let r : ReportData = k.1 in
      let kept = kept_all pieces k.0 r k.2.covers (h.whole r k.3).lost p piece.1.there k.4 in
      let at = subst (λ qs. In (l, mii_at qs l + above) (flat_map (places_of r.loops pieces) k.2.covers.kept)) (h.whole r k.3).same_loops
      (in_flat (places_of r.loops pieces) p (l, mii_at r.loops l + above) k.2.covers.kept kept (in_places r.loops pieces p l above piece.1)) in
      let e = map_in entry_place (l, mii_at ps l + above) r.entries (subst (λ qs. In (l, mii_at ps l + above) qs) (sym k.2.covers.entries) at) in
      record {
        report = r;
        listed = k.3;
        view = k.0;
        seen = k.5;
        worked = k.2;
        entry = e.0;
        entered = e.1;
        its_loop = ap (λ (q : ℕ × ℕ). q.0) e.2;
        its_interval = ap (λ (q : ℕ × ℕ). q.1) e.2;
      }

  -- what was beaten is above an interval that wins
  lower_win : (l ii : ℕ) (x : HasEntry l ii) → x.entry.found ≡ Beaten → (a : ℕ) × Wins l a × (a < ii)
  lower_win l ii x is = ⊎_elim
      (λ (s : HasLowerAnswer x.view x.entry).
      let mine : All (IsTrueAnswer words views) x.view.seen = all_in (λ v. All (IsTrueAnswer words views) v.seen) x.view views h.rule.seen x.seen in
      let true_answer : IsTrueAnswer words views (x.entry.loop_number, Some s.interval) = all_in (IsTrueAnswer words views) (x.entry.loop_number, Some s.interval) x.view.seen mine s.seen in
      let w : Wins l s.interval = subst (λ m. Wins m s.interval) x.its_loop (posted_wins x.entry.loop_number s.interval true_answer.1) in
      (s.interval, w, subst (λ m. s.interval < m) x.its_interval s.lower))
      (λ (s : HasLowerWin x.report.entries x.entry).
      let w : Wins l s.interval = subst (λ m. Wins m s.interval) x.its_loop (won_wins x.report x.listed x.entry.loop_number s.interval s.won) in
      (s.interval, w, subst (λ m. s.interval < m) x.its_interval s.lower))
      (x.worked.beaten x.entry x.entered is)

  settles_at : (l ii : ℕ) (e : Entry) → e.loop_number ≡ l → e.interval ≡ ii → is_settled e.found ≡ true → settles l ii e ≡ true
  settles_at l ii e a b c = grind (arith, nat_tests)

  settled_in : (l ii : ℕ) (x : HasEntry l ii) → is_settled x.entry.found ≡ true → is_settled_in reports l ii ≡ true
  settled_in l ii x is = any_in (λ (r : ReportData). list_any (settles l ii) r.entries) x.report reports x.listed
      (any_in (settles l ii) x.entry x.report.entries x.entered (settles_at l ii x.entry x.its_loop x.its_interval is))

  -- where no lower interval wins, an entry is settled
  settled_where : (l ii : ℕ) (x : HasEntry l ii) → ((a : ℕ) → Wins l a → a < ii → ⊥) → is_settled x.entry.found ≡ true
  settled_where l ii x none = go x.entry.found refl
    where
      go : (f : Found) → x.entry.found ≡ f → is_settled x.entry.found ≡ true
      go (Won k) is = ap is_settled is
      go (Failed c) is = ap is_settled is
      go Beaten is = let k = lower_win l ii x is in absurd (none k.0 k.1 k.2)
      go Unsettled is = absurd ((h.whole x.report x.listed).settled x.entry x.entered is)

  -- no interval below the choice wins
  none_below : (l : ℕ) (c : Option ℕ) → IsChosen wins ps pieces.ceiling l c → (ii : ℕ) → IsTried l c ii → (a : ℕ) → Wins l a → a < ii → ⊥
  none_below l None choice ii up a w less = choice a w.from_mii w.to_ceiling w.win
  none_below l (Some i) choice ii up a w less = choice.least a w.from_mii (omega arith) w.win

  settled_up : (l : ℕ) (c : Option ℕ) → l < pieces.loops → IsChosen wins ps pieces.ceiling l c → (above : ℕ) → above ≤ pieces.ceiling → IsTried l c (mii_at ps l + above)
      → is_settled_in reports l (mii_at ps l + above) ≡ true
  settled_up l c near choice above few up =
      let x = has_entry l above near few in
      settled_in l (mii_at ps l + above) x (settled_where l (mii_at ps l + above) x (λ a w less. none_below l c choice (mii_at ps l + above) up a w less))

  none_missing : (l start n : ℕ) → ((k : ℕ) → k < n → is_settled_in reports l (start + k) ≡ true) → missing_in reports l start n ≡ 0
  none_missing l start zero each = refl
  none_missing l start (suc n) each =
      let here : is_settled_in reports l start ≡ true = subst (λ m. is_settled_in reports l m ≡ true) (add-zero start) (each 0 (omega arith)) in
      let rest : missing_in reports l (start + 1) n ≡ 0 = none_missing l (start + 1) n (λ k near. subst (λ m. is_settled_in reports l m ≡ true) (shift start k) (each (k + 1) (omega arith))) in
      subst (λ b. (if b then 0 else 1) + missing_in reports l (start + 1) n ≡ 0) (sym here) (omega arith)
    where
      shift : (a k : ℕ) → a + (k + 1) ≡ a + 1 + k
      shift a k = omega arith

  none_missing_for : (l : ℕ) (c : Option ℕ) → l < pieces.loops → IsChosen wins ps pieces.ceiling l c → missing_in reports l (mii_at ps l) (tried_up (mii_at ps l) pieces.ceiling c) ≡ 0
  none_missing_for l None near choice = none_missing l (mii_at ps l) (pieces.ceiling + 1) (λ k few. settled_up l None near choice k (omega arith) tt)
  none_missing_for l (Some ii) near choice =
      let low = choice.from_mii in
      let high = choice.to_ceiling in
      none_missing l (mii_at ps l) (ii + 1 - mii_at ps l) (λ k few. settled_up l (Some ii) near choice k (omega arith) (omega arith))

  none_left : (l : ℕ) (cs : List (Option ℕ)) → l + length cs ≤ pieces.loops → ((k : ℕ) (c : Option ℕ) → slice_get cs k ≡ Some c → IsChosen wins ps pieces.ceiling (l + k) c)
      → retried_up ps pieces.ceiling reports l cs ≡ 0
  none_left l [] few are = refl
  none_left l (c ∷ cs) few are =
      let near : l < pieces.loops = omega arith in
      let choice : IsChosen wins ps pieces.ceiling l c = subst (λ m. IsChosen wins ps pieces.ceiling m c) (add-zero l) (are 0 c refl) in
      let here = none_missing_for l c near choice in
      let rest = none_left (l + 1) cs (omega arith) (λ k d is. subst (λ m. IsChosen wins ps pieces.ceiling m d) (shift l k) (are (k + 1) d (shifted c cs k d is))) in
      omega arith
    where
      shift : (a k : ℕ) → a + (k + 1) ≡ a + 1 + k
      shift a k = omega arith

      shifted : (c : Option ℕ) (cs : List (Option ℕ)) (k : ℕ) (d : Option ℕ) → slice_get cs k ≡ Some d → slice_get (c ∷ cs) (k + 1) ≡ Some d
      shifted c cs k d is = subst (λ m. slice_get (c ∷ cs) m ≡ Some d) (sym (add-one k)) is

  -- each loop's word is its choice
  word_is : (l : ℕ) (c : Option ℕ) → l < pieces.loops → IsChosen wins ps pieces.ceiling l c → least_of words l ≡ c
  word_is l c near choice = go (least_of words l) c choice (h.rule.least l (subst (λ n. l < n) (sym h.same_loops) near))
    where
      chosen_posted : (ii : ℕ) → IsLeastWin wins ps pieces.ceiling l ii → IsPosted views l ii
      chosen_posted ii best =
          let low = best.from_mii in
          let high = best.to_ceiling in
          let at : mii_at ps l + (ii - mii_at ps l) ≡ ii = omega arith in
          let x : HasEntry l ii = subst (HasEntry l) at (has_entry l (ii - mii_at ps l) near (omega arith)) in
          let settled = settled_where l ii x (λ a w less. best.least a w.from_mii less w.win) in
          let there = (h.whole x.report x.listed).entries x.entry x.entered in
          let wins_here : is_won x.entry.found ≡ true = won_here x.entry.found settled (λ is.
          let f : fails x.entry.loop_number x.entry.interval = failed_true wins fails x.entry.found x.entry.loop_number x.entry.interval is there.truth in
          h.exclusive l ii best.is_win (subst (λ m. fails m ii) x.its_loop (subst (λ m. fails x.entry.loop_number m) x.its_interval f))) in
          let listed : In (entry_place x.entry) (won_of x.report.entries) = entry_won x.entry x.report.entries x.entered wins_here in
          let same : entry_place x.entry ≡ (l, ii) = λ i. (x.its_loop i, x.its_interval i) in
          total_some (λ (v : View). times_posted l ii v.posted) pieces views reports x.report h.worked x.listed
          (λ v w. in_posted l ii v.posted (subst (λ ps. In (l, ii) ps) (sym w.posted) (subst (λ q. In q (won_of x.report.entries)) same listed)))

      same : (x ii : ℕ) → IsLeastWin wins ps pieces.ceiling l ii → Wins l x → x ≤ ii → x ≡ ii
      same x ii best w most = ⊎_elim (λ (less : x < ii). absurd (best.least x w.from_mii less w.win)) (λ (above : ii ≤ x). omega arith) (cases_lt x ii)

      go : (w c : Option ℕ) → IsChosen wins ps pieces.ceiling l c → IsLeastPosted views l w → w ≡ c
      go None None choice least = refl
      go None (Some ii) choice least = absurd (least ii (chosen_posted ii choice))
      go (Some x) None choice least = let w = posted_wins l x least.0 in absurd (choice x w.from_mii w.to_ceiling w.win)
      go (Some x) (Some ii) choice least = ap Some (same x ii choice (posted_wins l x least.0) (least.1 ii (chosen_posted ii choice)))

  pub open_law : (choices : List (Option ℕ)) → length choices ≡ pieces.loops → ((l : ℕ) (c : Option ℕ) → slice_get choices l ≡ Some c → IsChosen wins ps pieces.ceiling l c)
      → (retried_up ps pieces.ceiling reports 0 choices ≡ 0) × ((l : ℕ) (c : Option ℕ) → slice_get choices l ≡ Some c → least_of words l ≡ c)
  open_law choices len are = (
    none_left 0 choices (omega arith) (λ k c is. subst (λ m. IsChosen wins ps pieces.ceiling m c) (sym (zero-add k)) (are k c is)),
    λ l c is. word_is l c (let near = slice_get_within choices l c is in omega arith) (are l c is),
  )
