-- A stream of arrivals holds the one with the latest time, which was the latest news; and what one more arrival is
-- there. It is said of things of any type that have a point and are news or not. Assumes nothing.
use Rattle.std.proofs.Common.{◌≡◌, ℕ, ◌+◌, ◌-◌, ◌*◌, ◌<◌, ◌≤◌, Bool, true, false, cond, ltb, List, [], ◌∷◌, ◌++◌, ◌-ℤ◌, nat_abs, Some, None}
use Rattle.std.proofs.Common.{Ok, Option, Result, sym, refl, ap, ◌∙◌, subst, arith}
use Rattle.std.specs.List.{list_all, filter}
use Rattle.std.proofs.lemmas.Bool.{lt-ltb, le-ltb, both_ways}
use Rattle.std.specs.Option.{option_map}
use Rattle.refusal.specs.declared.Refusal.{Refusal}
use Rattle.placing.specs.declared.stream.LatestNews.{LatestNews}
use Rattle.placing.specs.declared.stream.Advance.{Advance}
use Rattle.placing.specs.declared.stream.Novelty.{Novelty}
use Rattle.placing.specs.declared.stream.Novelty.TheVariants.{News, Repeat, Late}
use Rattle.placing.specs.Lists.{last, greatest}
use Rattle.placing.specs.Placing.{novelty, latest_after}
use Rattle.placing.specs.Arrivals.{Point, age, Tells, expected_beside, is_news}
use Rattle.placing.proofs.Nearby.{Order, order, level_with, short, long}
use Rattle.placing.proofs.Leader.{below, all_below, newer, greatest_snoc}
use Rattle.placing.proofs.Snoc.{passes_now, passes_not}
use Rattle.placing.proofs.Beside.{latest, later_is, same_is, earlier_is, told_rightly}

module _ {X : Type 0} (point : X → Point) (news : X → Bool) (span unit : ℕ) where
  abbrev pub time : X → ℕ
  time x = (point x).time

  abbrev pub latest_news : List X → Option X
  latest_news xs = last (filter news xs)

  -- after these the stream holds y; start is the time that the first was made for
  pub record Holds (start : ℕ) (before : List X) (s : Option LatestNews) (y : X) : Type 0 where
    pub leads : greatest time before ≡ Some y
    pub newest : latest_news before ≡ Some y
    pub begun : start ≤ time y
    pub tells : Tells span unit (point y)
    pub held : s ≡ Some (latest (point y) (time y - start))

  abbrev pub Hears : List X → Option LatestNews → Type 0
  Hears [] s = s ≡ None
  Hears (first ∷ xs) s = (y : X) × Holds (time first) (first ∷ xs) s y

  abbrev pub start_of : List X → ℕ
  start_of [] = 0
  start_of (x ∷ xs) = time x

  -- the elapsed time is that since the news before; 0 for the first
  abbrev pub Passed : Option X → Point → ℕ → Type 0
  Passed None x elapsed = elapsed ≡ 0
  Passed (Some y) x elapsed = time y + elapsed ≡ x.time

  -- the arrival x is answered by r, and z is what is then kept of it
  pub record Next (before : List X) (s : Option LatestNews) (x : Point) (r : Result (Novelty Advance) Refusal) : Type 0 where
    pub as_expected : r ≡ expected_beside (start_of before) (option_map point (greatest time before)) x
    pub exactly : is_news r ≡ list_all (λ b. ltb (time b) x.time) before
    pub since : (n : Advance) → r ≡ Ok (News n) → Passed (latest_news before) x n.elapsed
    pub hears : (z : X) → point z ≡ x → news z ≡ is_news r → Hears (before ++ (z ∷ [])) (latest_after s x.label x.arrival r)
    pub leads : (z : X) → point z ≡ x → greatest time (before ++ (z ∷ [])) ≡ cond (is_news r) (Some z) (greatest time before)

  first_one : (x : Point) → Tells span unit x → Next [] None x (Ok (News (record { elapsed = 0; position = 0 })))
  first_one x tx = record {
    as_expected = refl;
    exactly = refl;
    since = λ n e. let i : 0 ≡ n.elapsed = cc in sym i;
    hears = λ z e w. (
      z,
      record {
        leads = refl;
        newest = ap (λ b. last (cond b (z ∷ []) [])) w;
        begun = omega arith;
        tells = subst (Tells span unit) (sym e) tx;
        held = ap (λ p. Some (latest p 0)) (sym e) ∙ ap (λ n. Some (latest (point z) n)) (let i : 0 ≡ time z - time z = omega arith in i);
      },
    );
    leads = λ z e. refl;
  }

  module _ (first : X) (xs : List X) (s : Option LatestNews) (y : X) (h : Holds (time first) (first ∷ xs) s y) (x : Point) where
    later : list_all (λ b. ltb (time b) x.time) (first ∷ xs) ≡ ltb (time y) x.time
    later = all_below time (first ∷ xs) x.time ∙ ap (λ o. below time o x.time) h.leads

    expects : expected_beside (time first) (option_map point (greatest time (first ∷ xs))) x
        ≡ expected_beside (time first) (Some (point y)) x
    expects = ap (λ o. expected_beside (time first) (option_map point o) x) h.leads

    leader : (z : X) → point z ≡ x → (b : Bool) → ltb (time y) x.time ≡ b → greatest time ((first ∷ xs) ++ (z ∷ [])) ≡ Some (cond b z y)
    leader z e b t =
        greatest_snoc time (first ∷ xs) z ∙ ap (λ o. Some (newer time o z)) h.leads
        ∙ ap (λ c. Some (cond c z y)) (ap (λ (p : Point). ltb (time y) p.time) e ∙ t)

    -- made for a later time, it is news
    is_newer : Tells span unit x → time y < x.time
        → Next (first ∷ xs) s x (Ok (News (record { elapsed = x.time - time y; position = x.time - time first })))
    is_newer tx l =
        let b = h.begun in
        let t = lt-ltb (time y) x.time l in
        record {
          as_expected = sym (expects ∙ later_is (time first) (point y) x l);
          exactly = sym (later ∙ t);
          since = λ n e.
              let i : x.time - time y ≡ n.elapsed = cc in
              subst (λ o. Passed o x n.elapsed) (sym h.newest) (let j : time y + n.elapsed ≡ x.time = omega arith in j);
          hears = λ z e w.
              let times : time z ≡ x.time = ap (λ (p : Point). p.time) e in (
                z,
                record {
                  leads = leader z e true t;
                  newest = passes_now news (first ∷ xs) z w;
                  begun = omega arith;
                  tells = subst (Tells span unit) (sym e) tx;
                  held = ap (λ (p : Point). Some (latest p (p.time - time first))) (sym e);
                },
              );
          leads = λ z e. leader z e true t;
        }

    -- made for no later time, it leaves the stream as it was
    is_still : (r : Result (Novelty Advance) Refusal) → x.time ≤ time y → expected_beside (time first) (Some (point y)) x ≡ r
        → is_news r ≡ false
        → latest_after s x.label x.arrival r ≡ s → Next (first ∷ xs) s x r
    is_still r l is quiet stays =
        let t = le-ltb (time y) x.time l in
        record {
          as_expected = sym (expects ∙ is);
          exactly = quiet ∙ sym (later ∙ t);
          since = λ n e. absurd (both_ways (is_news r) quiet (ap is_news e));
          hears = λ z e w. (
            y,
            record {
              leads = leader z e false t;
              newest = passes_not news (first ∷ xs) z (w ∙ quiet) ∙ h.newest;
              begun = h.begun;
              tells = h.tells;
              held = stays ∙ h.held;
            },
          );
          leads = λ z e. leader z e false t ∙ sym h.leads ∙ ap (λ b. cond b (Some z) (greatest time (first ∷ xs))) (sym quiet);
        }

    one_more : Tells span unit x → (point y).arrival ≤ x.arrival → 2 * nat_abs (age x -ℤ age (point y)) < span → x.time ≤ 1099511627775
        → Next (first ∷ xs) s x (novelty span unit s x.label x.arrival)
    one_more tx arrivals ages in_time = by (order (time y) x.time)
      where
        is : novelty span unit s x.label x.arrival ≡ expected_beside (time first) (Some (point y)) x
        is =
            ap (λ o. novelty span unit o x.label x.arrival) h.held
            ∙ told_rightly span unit (time first) (point y) x h.tells tx arrivals ages h.begun in_time

        by : Order (time y) x.time → Next (first ∷ xs) s x (novelty span unit s x.label x.arrival)
        by (short m e) =
            let l : time y < x.time = omega arith in
            subst (Next (first ∷ xs) s x) (sym (is ∙ later_is (time first) (point y) x l)) (is_newer tx l)
        by (level_with e) =
            let b = same_is (time first) (point y) x (sym e) in
            subst (Next (first ∷ xs) s x) (sym (is ∙ b)) (is_still (Ok Repeat) (omega arith) b refl refl)
        by (long m e) =
            let b = earlier_is (time first) (point y) x (omega arith) in
            subst (Next (first ∷ xs) s x) (sym (is ∙ b)) (is_still (Ok Late) (omega arith) b refl refl)

  -- what is asked of an arrival x beside the one with the latest time
  pub record Near (y : X) (x : Point) : Type 0 where
    pub order : (point y).arrival ≤ x.arrival
    pub ages : 2 * nat_abs (age x -ℤ age (point y)) < span

  -- one more arrival on a stream, beside the one with the latest time, if there is one
  pub next : (before : List X) (s : Option LatestNews) (x : Point) → Hears before s → Tells span unit x → x.time ≤ 1099511627775
      → ((y : X) → greatest time before ≡ Some y → Near y x) → Next before s x (novelty span unit s x.label x.arrival)
  next [] s x e tx in_time near = subst (λ o. Next [] o x (novelty span unit o x.label x.arrival)) (sym e) (first_one x tx)
  next (first ∷ xs) s x h tx in_time near =
      let n = near h.0 h.1.leads in one_more first xs s h.0 h.1 x tx n.order n.ages in_time
