-- That a bind draws a pair with each of the sockets that wait, or none.
use Rattle.std.specs.Prelude.{◌≡◌, ◌<◌, ◌≤◌, ◌+◌, ◌-◌, ◌++◌, ◌∷◌, [], ℕ, true, false, List, Some, All, length, map, slice_get, slice_index_or, take, refl}
use Rattle.std.proofs.Common.{arith, sym, ap, ◌∙◌, subst}
use Rattle.std.proofs.lemmas.List.{append-nil, length-append, length-map, length-take-le, take_all, take_more}
use Rattle.std.proofs.lemmas.Option.{slice_get_read}
use Rattle.std.proofs.lemmas.List.Folds.{list_any-append}
use Rattle.std.proofs.lemmas.List.Elements.{All-nil, All-pop, All-take}
use Rattle.zq_base.specs.declared.ids.EndId.{EndId}
use Rattle.zq_base.specs.declared.ids.ObjId.{ObjId}
use Rattle.spec_control.specs.Control.{end_of, is_end, next_pair}
use Rattle.spec_control.specs.Rows.{PairRow}
use Rattle.spec_control.specs.Held.{Held}
use Rattle.control_laws.proofs.ListLemmas.{never}
use Rattle.desk.specs.declared.load.Load.{Load}
use Rattle.desk.specs.Holding.{HearsNone, Holding, KeepsTurns, Stays, has_end}
use Rattle.desk.specs.Making.{capacity_between}
use Rattle.ctl_state.specs.declared.state.State.{State}
use Rattle.ctl_state.specs.Stands.{Stands}
use Rattle.ctl_moves.specs.Joined.{Gets}
use Rattle.ctl_moves.specs.Papers.{MayMake}
use Rattle.ctl_moves.specs.Room.{HavePlaces}
use Rattle.ctl_moves.proofs.JoinedLemmas.{gets_stays, not_held}
use Rattle.ctl_moves.specs.declared.batch.Drawn.{Drawn}
use Rattle.ctl_moves.specs.declared.batch.Batch.{Batch}
use Rattle.ctl_moves.specs.Batch.{FitsMore, behind, held_of, row_of}
use Rattle.ctl_moves.specs.Drawing.{AreTaken, Draws, HasPlace, IsDrawn, MayDraw, MayDrawNext, WereTaken}
use Rattle.spec_control.specs.declared.entry.Joining.{Joining}
use Rattle.ctl_moves.proofs.BindCameLemmas.{came_still}
use Rattle.ctl_moves.proofs.TakenLemmas.{or_right}

gets_nothing : {N : Type 0} (n o : ℕ) (h : Holding N) → Gets n o [] h h
gets_nothing n o h = record {
  ends = sym (append-nil (h.ends o));
  others = λ i other. refl;
  objects = λ i. refl;
  kinds = λ i. refl;
  output = λ i. refl;
  writers = λ e less. refl;
  mine = All-nil (λ (x : Held _). h.writes x.end ≡ true);
  delimiters = λ i e here at. at;
  states = λ i e less here. refl;
}

module _ {N O I : Type 0} where
  -- taken, though the holder did something else since
  pub taken_stays : (i : ℕ) (ds : List (Drawn N O I)) (s t : State (Load N O I)) (h k l : Holding N) → AreTaken i ds s t h k → Stays i k l → KeepsTurns k l → HearsNone k l → AreTaken i ds s t h l
  taken_stays i ds s t h k l taken stays keeps heard = record {
    is = taken.is;
    places = taken.places;
    numbers = taken.numbers;
    fresh = taken.fresh;
    elsewhere = taken.elsewhere;
    gets = gets_stays (length s.pairs) i (map held_of ds) h k l taken.gets stays (λ j e less here. keeps.states j e here);
    active = λ e here.
        keeps.states i e
        (ap (has_end e) (stays.now.ends ∙ taken.gets.ends) ∙ list_any-append (λ (y : Held N). is_end e y.end) (h.ends i) (map held_of ds) ∙ or_right (has_end e (h.ends i)) (has_end e (map held_of ds)) here)
        ∙ taken.active e here;
    turns = keeps.turns ∙ taken.turns;
    sealed = keeps.sealed ∙ taken.sealed;
    came = came_still h k l (length ds) taken.came keeps.joined;
    heard = heard ∙ taken.heard;
  }

  module _ (out_name : O → N) (in_name : I → N) (s : State (Load N O I)) (h : Holding N) (i : ObjId) (ws : List ObjId) (wakers : ℕ) where
    pub none_drawn : (b : Batch N O I) → b.drawn.items ≡ [] → b.notes.joined.items ≡ [] → b.notes.opened.items ≡ [] → (w : MayDraw s h i ws wakers) → Draws out_name in_name w.control i [] b.drawn.items b.notes s s h h
    none_drawn b drawn joined opened w = subst (λ (ds : List (Drawn N O I)). Draws out_name in_name w.control i [] ds b.notes s s h h) (sym drawn) (record {
      taken = record {
        is = refl;
        places = All-nil (λ (d : Drawn N O I). HavePlaces s d.o);
        numbers = tt;
        fresh = λ e past. not_held w.names w.control h i.0 w.stands.lists.known (w.has i.0 w.lent) e (let many = w.stands.pairs.many in omega (arith, many, past));
        elsewhere = λ e past j holds. not_held w.names w.control h j w.stands.lists.known (w.has j holds) e (let many = w.stands.pairs.many in omega (arith, many, past));
        gets = gets_nothing (length s.pairs) i.0 h;
        active = λ e here. absurd (never here);
        turns = refl;
        sealed = refl;
        came = record { more = []; joined = sym (append-nil h.joined); count = refl };
        heard = refl;
      };
      stands = subst (λ (ps : List PairRow). Stands s (record w.control { rows = record w.control.rows { pairs = ps } })) (sym (append-nil w.control.rows.pairs)) w.stands;
      waiters = refl;
      drawn = All-nil (IsDrawn out_name in_name w.control i (h.kind i.0));
      joined = joined;
      came = sym (ap (λ (js : List (Joining N)). h.joined ++ js) joined ∙ append-nil h.joined);
      opened = opened;
    })

    module _ (n : ℕ) (below : n < length ws) (t : State (Load N O I)) (k : Holding N) (b : Batch N O I) where
      -- one fewer is left
      less_left : (length ws - (n + 1)) + 1 ≡ length ws - n
      less_left = omega (arith, below)

      pub one_fits : FitsMore (length ws - n) b → FitsMore ((length ws - (n + 1)) + 1) b
      one_fits fits = subst (λ (m : ℕ). FitsMore m b) (sym less_left) fits

      module _ (x : ObjId) (is : x ≡ slice_index_or ws n x) (w : MayDraw s h i ws wakers) (draws : Draws out_name in_name w.control i (take n ws) b.drawn.items b.notes s t h k) where
        pub more_is : take (n + 1) ws ≡ take n ws ++ x ∷ []
        more_is = take_more ws n x below ∙ ap (λ (y : ObjId). take n ws ++ y ∷ []) (sym is)

        abbrev pub may_draw_next : FitsMore (length ws - n) b → MayDrawNext out_name in_name t k i x b wakers
        may_draw_next fits = record {
          before = s;
          had = h;
          done = take n ws;
          may = record {
            control = w.control;
            names = w.names;
            stands = w.stands;
            has = w.has;
            lent = w.lent;
            mine = w.mine;
            theirs = subst (λ (xs : List ObjId). All (HasPlace s w.control) xs) more_is (All-take (HasPlace s w.control) (n + 1) ws w.theirs);
            few_pairs = (let few = w.few_pairs in let many = ap (λ (xs : List ObjId). length xs) (sym more_is) ∙ length-take-le (n + 1) ws (omega (arith, below)) in omega (arith, few, many, below));
            wakers_there = w.wakers_there;
          };
          draws = draws;
          fits = record {
            drawn = (let room = fits.drawn in omega (arith, room, below));
            notes = record { joined = (let room = fits.notes.joined in omega (arith, room, below)); opened = (let room = fits.notes.opened in omega (arith, room, below)) };
          };
        }

        -- as many numbers were drawn as sockets were gone over
        next_is : length t.pairs ≡ next_pair w.control + n
        next_is =
            let many = draws.stands.pairs.many in
            let rows = length-append w.control.rows.pairs (map row_of b.drawn.items) in
            let each = length-map b.drawn.items row_of in
            let over = sym (length-map b.drawn.items (λ (d : Drawn N O I). d.o.last)) ∙ ap (λ (xs : List ObjId). length xs) draws.waiters ∙ length-take-le n ws (omega (arith, below)) in
            omega (arith, many, rows, each, over)

        pub may_make_next : (may_make : EndId → ℕ → ℕ → Type 0) → ((k : ℕ) (j : ObjId) → slice_get ws k ≡ Some j → may_make (end_of (next_pair w.control + k) false) (capacity_between w.control i.0 j.0) (capacity_between w.control j.0 i.0)) →
            MayMake t i x (end_of (length t.pairs) false) may_make
        may_make_next may_make makes = record {
          control = behind (map row_of b.drawn.items) w.control;
          stands = draws.stands;
          first_marks = w.mine.marks;
          last_marks = (All-pop (HasPlace s w.control) (take n ws ++ x ∷ []) (take n ws) (Some x) refl (subst (λ (xs : List ObjId). All (HasPlace s w.control) xs) more_is (All-take (HasPlace s w.control) (n + 1) ws w.theirs))).1.marks;
          makes = subst (λ (m : ℕ). may_make (end_of m false) (capacity_between w.control i.0 x.0) (capacity_between w.control x.0 i.0)) (sym next_is) (makes n x (slice_get_read ws (length ws) n x refl below is));
        }

        pub one_drawn : (e : Batch N O I) (u : State (Load N O I)) (l : Holding N) → Draws out_name in_name w.control i (take n ws ++ x ∷ []) e.drawn.items e.notes s u h l → Draws out_name in_name w.control i (take (n + 1) ws) e.drawn.items e.notes s u h l
        one_drawn e u l now = subst (λ (xs : List ObjId). Draws out_name in_name w.control i xs e.drawn.items e.notes s u h l) (sym more_is) now

        -- no memory for one more
        abbrev pub were_taken : (u : State (Load N O I)) (l : Holding N) (ds : List (Drawn N O I)) → u ≡ t → ds ≡ b.drawn.items → Stays i.0 k l → KeepsTurns k l → HearsNone k l → WereTaken u l i.0 ds
        were_taken u l ds same still stays keeps heard = record {
          before = s;
          had = h;
          taken = subst (λ (y : State (Load N O I)). AreTaken i.0 ds s y h l) (sym same) (subst (λ (ys : List (Drawn N O I)). AreTaken i.0 ys s t h l) (sym still) (taken_stays i.0 b.drawn.items s t h k l draws.taken stays keeps heard));
        }

    pub all_drawn : (n : ℕ) → length ws ≤ n → (t : State (Load N O I)) (k : Holding N) (b : Batch N O I) (w : MayDraw s h i ws wakers) → Draws out_name in_name w.control i (take n ws) b.drawn.items b.notes s t h k →
        Draws out_name in_name w.control i ws b.drawn.items b.notes s t h k
    all_drawn n most t k b w draws = subst (λ (xs : List ObjId). Draws out_name in_name w.control i xs b.drawn.items b.notes s t h k) (take_all n ws most) draws
