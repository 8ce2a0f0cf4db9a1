-- What a tally tells of a session's links.
use Rattle.std.proofs.Common.{◌≡◌, ℕ, ◌+◌, ◌-◌, Bool, true, false, List, [], ◌∷◌, ◌++◌, length, Option, Some, None, refl, sym, ap, subst, ◌∙◌, inl, inr, arith}
use Rattle.std.specs.Prelude.{All}
use Rattle.std.proofs.lemmas.List.{append-nil, length-append}
use Rattle.std.proofs.lemmas.List.Concat.{flat_map-append}
use Rattle.zq_base.specs.Message.{Frames}
use Rattle.zq_base.specs.declared.options.EngineOpts.{EngineOpts}
use Rattle.spec_pattern.specs.PipeStep.{Take}
use Rattle.spec_zmtp.specs.Put.{IsSendable}
use Rattle.spec_zmtp.specs.DecodedStream.{Decoded, Decodes}
use Rattle.spec_link.specs.declared.row.LinkEnd.{LinkEnd}
use Rattle.spec_link.specs.LinkAct.{LinkAct, Step, taken_by, heard_of, offered_of, taken_of, put_of}
use Rattle.spec_link.specs.LinkRun.{IsLinkRun, IsAllSaid}
use Rattle.spec_link.specs.Rows.{ClosedLink, AddUp, AreHeard, ArePut, AreLinkRuns, IsWritten, IsLost, count_of, acts_at, last_of}
use Rattle.spec_link.specs.OneByOne.{TakesOneByOne}
use Rattle.spec_link.proofs.InFlightLemmas.{all_written}
use Rattle.spec_link.proofs.TopicLemmas.{Silent}
use Rattle.spec_link.proofs.OneByOneLemmas.{all_but_one, still}
use Rattle.zq_base.specs.declared.kind.Kind.{Kind}
use Rattle.zq_base.specs.declared.kind.Kind.TheVariants.{Push}
use Rattle.link_side.specs.Kept.{Kept, IsKeptOf, IsAtRest}
use Rattle.link_side.specs.Silent.{HasHeard, HasOutput, HasNone}
use Rattle.zq_session.specs.declared.tally.Tally.{Tally}
use Rattle.zq_session.specs.Counting.{CountsAt, IsLeftAt}
use Rattle.zq_session.proofs.SumLemmas.{none_counts}
use Rattle.zq_session.proofs.UnputLemmas.{push_or_not, heard_as, output_of, nothing_of, means_link_run}
use Rattle.zq_session.specs.Tallies.{Totals, IsTallyOf, AreSendable, AreTotals, HasTally, TalliesNext, due_at, no_totals, with_link, with_takes, with_end, written_by, lost_by}

-- ---- one link more

module _ (R : Decoded → List LinkAct → ℕ → Type 0) (opts : EngineOpts) where
  pub adds_one : (closed : List ClosedLink) (acts : List LinkAct) (d : Decoded) (k n : ℕ) → Decodes opts (heard_of acts) d → R d acts k → AddUp R opts (acts_at closed None) n
      → AddUp R opts (acts_at closed (Some acts)) (n + k)
  adds_one [] acts d k n e r none = (d, k, 0, e, r, refl, omega (arith, none))
  adds_one (link ∷ closed) acts d k n e r a = (a.0, a.1, a.2 + k, a.3, a.4, adds_one closed acts d k a.2 e r a.5, omega (arith, a.6))

pub closed_are : (closed : List ClosedLink) (acts : List LinkAct) (why : LinkEnd) → acts_at closed (Some acts) ≡ acts_at (closed ++ record { acts = acts; why = why } ∷ []) None
closed_are [] acts why = refl
closed_are (link ∷ closed) acts why = ap (λ (l : List (List LinkAct)). link.acts ∷ l) (closed_are closed acts why)

pub runs_one : (opts : EngineOpts) (closed : List ClosedLink) (acts : List LinkAct) (d : Decoded) → IsLinkRun opts acts d → AreLinkRuns opts (acts_at closed None) → AreLinkRuns opts (acts_at closed (Some acts))
runs_one opts [] acts d run all = ((d, run), tt)
runs_one opts (link ∷ closed) acts d run all = (all.0, runs_one opts closed acts d run all.1)

pub sendable_one : (closed : List ClosedLink) (acts : List LinkAct) → AreSendable (acts_at closed (Some acts)) → AreSendable (acts_at closed None) × All IsSendable (offered_of acts)
sendable_one [] acts k = (tt, k.0)
sendable_one (link ∷ closed) acts k = (let s = sendable_one closed acts k.1 in ((k.0, s.0), s.1))

length_one : (closed : List ClosedLink) (acts : List LinkAct) → length (acts_at closed (Some acts)) ≡ length (acts_at closed None) + 1
length_one [] acts = refl
length_one (link ∷ closed) acts = omega (arith, length_one closed acts)

length_same : (closed : List ClosedLink) (acts other : List LinkAct) → length (acts_at closed (Some acts)) ≡ length (acts_at closed (Some other))
length_same closed acts other = length_one closed acts ∙ sym (length_one closed other)

last_one : (closed : List ClosedLink) (link : ClosedLink) → last_of (closed ++ link ∷ []) ≡ Some link.why
last_one [] link = refl
last_one (a ∷ []) link = refl
last_one (a ∷ b ∷ closed) link = last_one (b ∷ closed) link

-- ---- before any link, and as one is given

totals_none : (dials : Bool) (opts : EngineOpts) → AreTotals dials opts None [] no_totals
totals_none dials opts = record { runs = tt; links_are = refl; heard_is = refl; put_is = refl; written_is = λ _. refl; lost_is = λ _. refl; last_is = refl; taken_is = refl; one_by_one = tt }

totals_given : (dials : Bool) (opts : EngineOpts) (closed : List ClosedLink) (x : Totals) → AreTotals dials opts None closed x → AreTotals dials opts (Some []) closed (with_link x)
totals_given dials opts closed x a = record {
  runs = a.runs;
  links_are = ap (λ (n : ℕ). n + 1) a.links_are ∙ sym (length_one closed []);
  heard_is = a.heard_is;
  put_is = a.put_is;
  written_is = a.written_is;
  lost_is = a.lost_is;
  last_is = a.last_is;
  taken_is = refl;
  one_by_one = inl refl;
}

-- ---- acts at the link

totals_acts : (dials : Bool) (opts : EngineOpts) (closed : List ClosedLink) (acts more : List LinkAct) (n : ℕ) (x : Totals) → length (taken_of more) ≡ n → TakesOneByOne opts (due_at dials opts closed) (acts ++ more)
    → AreTotals dials opts (Some acts) closed x → AreTotals dials opts (Some (acts ++ more)) closed (with_takes n x)
totals_acts dials opts closed acts more n x e one a = record {
  runs = a.runs;
  links_are = a.links_are ∙ length_same closed acts (acts ++ more);
  heard_is = a.heard_is;
  put_is = a.put_is;
  written_is = a.written_is;
  lost_is = a.lost_is;
  last_is = a.last_is;
  taken_is = ap (λ (m : ℕ). m + n) a.taken_is ∙ ap (λ (m : ℕ). length (taken_of acts) + m) (sym e)
      ∙ sym (length-append (taken_of acts) (taken_of more)) ∙ ap (λ (l : List Frames). length l) (sym (flat_map-append taken_by acts more));
  one_by_one = one;
}

-- where they offer nothing
totals_still : (dials : Bool) (opts : EngineOpts) (closed : List ClosedLink) (acts more : List LinkAct) (x : Totals) → Silent more → AreTotals dials opts (Some acts) closed x → AreTotals dials opts (Some (acts ++ more)) closed x
totals_still dials opts closed acts more x k a = record {
  runs = a.runs;
  links_are = a.links_are ∙ length_same closed acts (acts ++ more);
  heard_is = a.heard_is;
  put_is = a.put_is;
  written_is = a.written_is;
  lost_is = a.lost_is;
  last_is = a.last_is;
  taken_is = a.taken_is ∙ ap (λ (l : List Frames). length l) (sym (flat_map-append taken_by acts more ∙ ap (λ (l : List Frames). taken_of acts ++ l) k.takes ∙ append-nil (taken_of acts)));
  one_by_one = still opts (due_at dials opts closed) acts more k a.one_by_one;
}

-- ---- what the link that stands has written, and loses where it ends

some_taken : (acts before behind : List LinkAct) (x : LinkAct) (m : Frames) → taken_by x ≡ m ∷ [] → acts ≡ before ++ x ∷ behind → length (taken_of acts) - (length (taken_of acts) - 1) ≡ 1
some_taken acts before behind x m et e =
    let n = ap (λ (l : List LinkAct). length (taken_of l)) e ∙ ap (λ (l : List Frames). length l) (flat_map-append taken_by before (x ∷ behind)) ∙ length-append (taken_of before) (taken_of (x ∷ behind)) in
    let k = ap (λ (l : List Frames). length (l ++ taken_of behind)) et in
    omega (arith, n, k)

pub fates_at : (opts : EngineOpts) (closed : List ClosedLink) (dials left : Bool) (acts : List LinkAct) (d : Decoded) → All IsSendable (offered_of acts) → TakesOneByOne opts (due_at dials opts closed) acts → IsLinkRun opts acts d
    → (left ≡ true → IsAllSaid opts d acts → ⊥) → (left ≡ false → IsAllSaid opts d acts)
    → IsWritten opts d acts (written_by left (length (taken_of acts))) × IsLost opts d acts (lost_by left (length (taken_of acts)))
fates_at opts closed dials false acts d good one run unsaid said = all_written opts acts d (said refl)
fates_at opts closed dials true acts d good (inl none) run unsaid said =
    let k = all_but_one.none opts acts d none run in
    let n : 0 ≡ length (taken_of acts) = sym (ap (λ (l : List Frames). length l) none) in
    let w : 0 ≡ length (taken_of acts) - 1 = omega (arith, n) in
    let l : 0 ≡ length (taken_of acts) - (length (taken_of acts) - 1) = omega (arith, n) in
    (subst (λ (m : ℕ). IsWritten opts d acts m) w k.0, subst (λ (m : ℕ). IsLost opts d acts m) l k.1)
fates_at opts closed dials true acts d good (inr t) run unsaid said =
    let k = all_but_one.one opts (due_at dials opts closed) acts d good t run (unsaid refl) in
    (k.0, subst (λ (m : ℕ). IsLost opts d acts m) (sym (some_taken acts t.before t.behind (Step (Take t.pipe t.message)) t.message refl t.all)) k.1)

-- ---- a link is over

module _ (dials : Bool) (opts : EngineOpts) (closed : List ClosedLink) (acts : List LinkAct) (x : Totals) (a : AreTotals dials opts (Some acts) closed x) (left : Bool) (d : Decoded) (run : IsLinkRun opts acts d)
    (unsaid : left ≡ true → IsAllSaid opts d acts → ⊥) (said : left ≡ false → IsAllSaid opts d acts) where
  -- its messages are written and lost as it stands
  pub written_now : AreSendable (acts_at closed (Some acts)) → AddUp (IsWritten opts) opts (acts_at closed (Some acts)) (x.written + written_by left x.taken)
  written_now good =
      let s = sendable_one closed acts good in
      let f = fates_at opts closed dials left acts d s.1 a.one_by_one run unsaid said in
      adds_one (IsWritten opts) opts closed acts d (written_by left x.taken) x.written run.decodes (subst (λ (n : ℕ). IsWritten opts d acts (written_by left n)) (sym a.taken_is) f.0) (a.written_is s.0)

  pub lost_now : AreSendable (acts_at closed (Some acts)) → AddUp (IsLost opts) opts (acts_at closed (Some acts)) (x.lost + lost_by left x.taken)
  lost_now good =
      let s = sendable_one closed acts good in
      let f = fates_at opts closed dials left acts d s.1 a.one_by_one run unsaid said in
      adds_one (IsLost opts) opts closed acts d (lost_by left x.taken) x.lost run.decodes (subst (λ (n : ℕ). IsLost opts d acts (lost_by left n)) (sym a.taken_is) f.1) (a.lost_is s.0)

  totals_over : (h p : ℕ) (why : LinkEnd) → h ≡ length d.messages → p ≡ length (put_of acts)
      → AreTotals dials opts None (closed ++ record { acts = acts; why = why } ∷ []) (with_end h p left why x)
  totals_over h p why eh ep =
      let links = closed_are closed acts why in
      record {
        runs = subst (λ (l : List (List LinkAct)). AreLinkRuns opts l) links (runs_one opts closed acts d run a.runs);
        links_are = a.links_are ∙ ap (λ (l : List (List LinkAct)). length l) links;
        heard_is = subst (λ (l : List (List LinkAct)). AddUp AreHeard opts l (x.heard + h)) links
            (adds_one AreHeard opts closed acts d h x.heard run.decodes eh a.heard_is);
        put_is = subst (λ (l : List (List LinkAct)). AddUp ArePut opts l (x.put + p)) links
            (adds_one ArePut opts closed acts d p x.put run.decodes ep a.put_is);
        written_is = λ good. subst (λ (l : List (List LinkAct)). AddUp (IsWritten opts) opts l (x.written + written_by left x.taken)) links
            (written_now (subst (λ (l : List (List LinkAct)). AreSendable l) (sym links) good));
        lost_is = λ good. subst (λ (l : List (List LinkAct)). AddUp (IsLost opts) opts l (x.lost + lost_by left x.taken)) links
            (lost_now (subst (λ (l : List (List LinkAct)). AreSendable l) (sym links) good));
        last_is = sym (last_one closed (record { acts = acts; why = why }));
        taken_is = refl;
        one_by_one = tt;
      }

-- ---- a tally behind each of these

pub tally_none : (dials : Bool) (opts : EngineOpts) (t : Tally) → IsTallyOf no_totals t → HasTally dials opts None [] t
tally_none dials opts t k = (no_totals, totals_none dials opts, k)

-- the same tally of the same session
pub tally_as : (dials dials' : Bool) (opts : EngineOpts) (link : Option (List LinkAct)) (closed : List ClosedLink) (t t' : Tally) → dials' ≡ dials → t' ≡ t → HasTally dials opts link closed t → HasTally dials' opts link closed t'
tally_as dials dials' opts link closed t t' ed et k = subst (λ (x : Bool). HasTally x opts link closed t') (sym ed) (subst (λ (x : Tally). HasTally dials opts link closed x) (sym et) k)

module _ (dials : Bool) (opts : EngineOpts) (closed : List ClosedLink) (t u : Tally) where
  pub tally_given : TalliesNext with_link t u → HasTally dials opts None closed t → HasTally dials opts (Some []) closed u
  tally_given next k = (with_link k.0, totals_given dials opts closed k.0 k.1, next k.0 k.2)

  -- acts by which so many messages are taken
  pub tally_acts : (acts more : List LinkAct) (n : ℕ) → length (taken_of more) ≡ n → TakesOneByOne opts (due_at dials opts closed) (acts ++ more) → TalliesNext (with_takes n) t u
      → HasTally dials opts (Some acts) closed t → HasTally dials opts (Some (acts ++ more)) closed u
  tally_acts acts more n e one next k = (with_takes n k.0, totals_acts dials opts closed acts more n k.0 e one k.1, next k.0 k.2)

  -- acts that offer nothing
  pub tally_still : (acts more : List LinkAct) → Silent more → HasTally dials opts (Some acts) closed t → HasTally dials opts (Some (acts ++ more)) closed t
  tally_still acts more n k = (k.0, totals_still dials opts closed acts more k.0 n k.1, k.2)

  -- the link is over, of which the side told this
  pub tally_over : (acts : List LinkAct) (heard put : ℕ) (left : Bool) (why : LinkEnd) → (c : CountsAt opts acts heard put) → IsLeftAt opts acts left
      → TalliesNext (with_end (length c.meant.messages) (length (put_of acts)) left why) t u
      → HasTally dials opts (Some acts) closed t → HasTally dials opts None (closed ++ record { acts = acts; why = why } ∷ []) u
  tally_over acts heard put left why c l next k =
      let h = length c.meant.messages in
      let p = length (put_of acts) in
      let d = c.meant in
      (with_end h p left why k.0, totals_over dials opts closed acts k.0 k.1 left d c.run (λ e. l.some e d c.run.decodes) (λ e. l.none e d c.run.decodes) h p why refl refl, next k.0 k.2)

-- ---- what a side at rest tells

pub counts_at : (opts : EngineOpts) (kind : Kind) (acts : List LinkAct) (k : Kept) (heard put : ℕ) → opts.kind ≡ kind → (r : IsKeptOf opts acts k) → IsAtRest k → HasHeard heard k
    → (kind ≡ Push → put ≡ 0) → ((kind ≡ Push → ⊥) → put ≡ k.through) → CountsAt opts acts heard put
counts_at opts kind acts k heard put e r rest hears drops puts =
    let m = means_link_run opts acts k r rest in
    let d = m.0 in
    record {
      meant = d;
      run = m.1;
      heard_is = hears opts r.all r.run d (heard_as opts acts k r d m.1.decodes);
      put_is = elim (push_or_not opts.kind) as (λ _. put ≡ count_of (length (put_of acts))) [
        | inl push ↦ drops (sym e ∙ push) ∙ none_counts ∙ ap (λ (l : List Frames). count_of (length l)) (sym (m.1.drops push))
        | inr never ↦ puts (λ x. never (e ∙ x)) ∙ r.run.through_is ∙ ap (λ (l : List LinkAct). count_of (length (put_of l))) (r.puts never)
      ];
    }

pub left_at : (opts : EngineOpts) (acts : List LinkAct) (k : Kept) (left : Bool) → IsKeptOf opts acts k → (left ≡ true → HasOutput k) → (left ≡ false → HasNone k) → IsLeftAt opts acts left
left_at opts acts k left r some none = record { some = λ e. output_of opts acts k r (some e); none = λ e. nothing_of opts acts k r (none e) }
