use Rattle.std.specs.Prelude.{◌≡◌, ◌≢◌, ℕ, zero, suc, Bool, true, false, [], ◌∷◌, Some, refl}
use Rattle.spec_control.specs.declared.end.EndState.TheVariants.{WaitDelimiter, Gone}
use Rattle.spec_control.specs.Place.{At}
use Rattle.spec_control.specs.Row.{root_row}
use Rattle.spec_control.specs.Rows.{Rows, no_pair, obj, pair, end_place}
use Rattle.spec_control.specs.Control.{begun}
use Rattle.spec_control.specs.ControlRun.{after_all}
use Rattle.zq_base.specs.declared.kind.Kind.TheVariants.{Push, Pull}
use Rattle.spec_control.specs.declared.stage.Stage.TheVariants.{Finished, Cleared}
use Rattle.spec_control.specs.declared.stage.Use.TheVariants.{Unused}
use Rattle.spec_control.specs.declared.object.ObjKind.TheVariants.{Session}
use Rattle.spec_control.specs.Reply.{root_asked}
use Rattle.spec_control.specs.Quiescence.{IsQuiescent}
use Rattle.spec_control.specs.ControlExamples.{Stories, options_of, empty_run, crossed_run, session_run, read_out_run, EmptyContextEnds, CrossedSocketsEnd, LingeringSessionEnds, ReadOutSocketsEnd, WorkedRuns}
use Rattle.spec_control.proofs.RestingLemmas.{IsDone, never, none, of_one, some_none, rests, waits_of_none, waits_of_one, both_gone, ended_socket, root_ended}

empty_rest : (stories : Stories) → IsQuiescent (after_all (empty_run stories) (begun 1))
empty_rest stories =
    rests _ (record { objects = record root_row { stage = Finished } ∷ []; pairs = no_pair ∷ [] }) refl refl
    (of_one (IsDone (after_all (empty_run stories) (begun 1))) _
    (record { closed = λ h. absurd (never h); ended = refl; empty = refl })
    (record { closed = λ h. absurd (never h); ended = refl; empty = refl }))
    waits_of_none

pub empty : (stories : Stories) → EmptyContextEnds stories
empty stories = record {
  run_is = (
    record { may = (tt, refl); answered = record { joined = refl; kinds = tt; opened = refl; settled = refl; output = refl } },
    (
      record { may = (tt, refl); answered = record { joined = refl; kinds = tt; opened = refl; settled = refl; output = refl } },
      (record { empty = (refl, none _); root = refl; live = refl; room = refl }, tt),
    ),
  );
  ended_are = refl;
  settlements_are = refl;
  quiescent = empty_rest stories;
}

crossed_0 : (stories : Stories) → (after_all (crossed_run stories) (begun 1)).boxes 0 ≡ []
crossed_0 stories = refl

crossed_2 : (stories : Stories) → (after_all (crossed_run stories) (begun 1)).boxes 2 ≡ []
crossed_2 stories = refl

crossed_3 : (stories : Stories) → (after_all (crossed_run stories) (begun 1)).boxes 3 ≡ []
crossed_3 stories = refl

abbrev crossed_rows : Stories → Rows
crossed_rows stories = record {
  objects = root_ended ∷ ended_socket Pull (options_of stories [] 0) 2 ∷ ended_socket Push (options_of stories (7 ∷ []) 0) 3 ∷ [];
  pairs = no_pair ∷ record { a_owner = 2; b_owner = 1; a = At Gone; b = At Gone } ∷ [];
}

crossed_rows_are : (stories : Stories) → (after_all (crossed_run stories) (begun 1)).rows ≡ crossed_rows stories
crossed_rows_are stories = refl

crossed_asked : (stories : Stories) → root_asked (after_all (crossed_run stories) (begun 1)) ≡ true
crossed_asked stories = refl

crossed_done : (stories : Stories) (i : ℕ) → IsDone (after_all (crossed_run stories) (begun 1)) (obj (crossed_rows stories) i)
crossed_done stories zero = record { closed = λ h. absurd (never h); ended = refl; empty = crossed_0 stories }
crossed_done stories (suc zero) = record { closed = λ h. refl; ended = refl; empty = crossed_2 stories }
crossed_done stories (suc (suc zero)) = record { closed = λ h. refl; ended = refl; empty = crossed_3 stories }
crossed_done stories (suc (suc (suc i))) = record { closed = λ h. absurd (never h); ended = refl; empty = crossed_0 stories }

crossed_waits : (stories : Stories) (k : ℕ) (a : Bool) → end_place (pair (crossed_rows stories) k) a ≢ At WaitDelimiter
crossed_waits stories = waits_of_one (record { a_owner = 2; b_owner = 1; a = At Gone; b = At Gone }) (both_gone (record { a_owner = 2; b_owner = 1; a = At Gone; b = At Gone }) refl refl)

pub crossed : (stories : Stories) → CrossedSocketsEnd stories
crossed stories = record {
  run_is = (
    record { may = (tt, refl); answered = record { joined = refl; kinds = tt; opened = refl; settled = refl; output = refl } },
    (
      record { may = (tt, refl); answered = record { joined = refl; kinds = tt; opened = refl; settled = refl; output = refl } },
      (
        record { may = (record { socket = refl; open_still = refl; lives = refl }, refl); answered = record { joined = refl; kinds = tt; opened = refl; settled = refl; output = refl } },
        (
          record { may = (record { socket = refl; open_still = refl; lives = refl }, refl); answered = record { joined = refl; kinds = (tt, tt); opened = refl; settled = refl; output = refl } },
          (
            record { may = record { behind = _; oldest = refl; held = refl }; answered = record { joined = refl; kinds = (tt, tt); opened = refl; settled = refl; output = λ h. absurd (never h) } },
            (
              record { may = (record { socket = refl; open_still = refl; lives = refl }, refl); answered = record { joined = refl; kinds = tt; opened = refl; settled = refl; output = refl } },
              (
                record { may = (record { socket = refl; open_still = refl; lives = refl }, refl); answered = record { joined = refl; kinds = tt; opened = refl; settled = refl; output = refl } },
                (
                  record { may = record { behind = _; oldest = refl; held = refl }; answered = record { joined = refl; kinds = (tt, tt); opened = refl; settled = refl; output = λ h. absurd (never h) } },
                  (
                    record { may = record { behind = _; oldest = refl; held = refl }; answered = record { joined = refl; kinds = (tt, tt); opened = refl; settled = refl; output = λ h. absurd (never h) } },
                    (
                      record { may = record { behind = _; oldest = refl; held = refl }; answered = record { joined = refl; kinds = tt; opened = refl; settled = refl; output = λ h. absurd (never h) } },
                      (
                        record { may = record { behind = _; oldest = refl; held = refl }; answered = record { joined = refl; kinds = tt; opened = refl; settled = refl; output = λ h. absurd (never h) } },
                        (
                          record { may = record { behind = _; oldest = refl; held = refl }; answered = record { joined = refl; kinds = tt; opened = refl; settled = refl; output = λ h. absurd (never h) } },
                          (
                            record { may = record { behind = _; oldest = refl; held = refl }; answered = record { joined = refl; kinds = tt; opened = refl; settled = refl; output = λ h. absurd (never h) } },
                            (
                              record { may = record { behind = _; oldest = refl; held = refl }; answered = record { joined = refl; kinds = tt; opened = refl; settled = record { adds_up = refl; read_out = λ e. absurd (some_none e) }; output = λ h. absurd (never h) } },
                              (
                                record { may = record { behind = _; oldest = refl; held = refl }; answered = record { joined = refl; kinds = tt; opened = refl; settled = record { adds_up = refl; read_out = λ e. refl }; output = λ h. absurd (never h) } },
                                (
                                  record { may = record { behind = _; oldest = refl; held = refl }; answered = record { joined = refl; kinds = tt; opened = refl; settled = refl; output = λ h. absurd (never h) } },
                                  (
                                    record { may = record { behind = _; oldest = refl; held = refl }; answered = record { joined = refl; kinds = tt; opened = refl; settled = refl; output = λ h. absurd (never h) } },
                                    (
                                      record { may = (tt, refl); answered = record { joined = refl; kinds = tt; opened = refl; settled = refl; output = refl } },
                                      tt,
                                    ),
                                  ),
                                ),
                              ),
                            ),
                          ),
                        ),
                      ),
                    ),
                  ),
                ),
              ),
            ),
          ),
        ),
      ),
    ),
  );
  ended_are = refl;
  settlements_are = refl;
  quiescent = rests (after_all (crossed_run stories) (begun 1)) (crossed_rows stories) (crossed_rows_are stories) (crossed_asked stories) (crossed_done stories) (crossed_waits stories);
}

session_0 : (stories : Stories) → (after_all (session_run stories) (begun 1)).boxes 0 ≡ []
session_0 stories = refl

session_1 : (stories : Stories) → (after_all (session_run stories) (begun 1)).boxes 1 ≡ []
session_1 stories = refl

session_2 : (stories : Stories) → (after_all (session_run stories) (begun 1)).boxes 2 ≡ []
session_2 stories = refl

abbrev session_rows : Stories → Rows
session_rows stories = record {
  objects = root_ended ∷ ended_socket Push (options_of stories [] 1000) 2
      ∷ record { owner = Some 1; kind = Session; slot = 1; options = options_of stories [] 1000; pair = Some 1; accepted = false; stage = Cleared; noted = true; plugged = true; request = Unused; stop = Unused; asked_link = true; asked_linger = false } ∷ [];
  pairs = no_pair ∷ record { a_owner = 1; b_owner = 2; a = At Gone; b = At Gone } ∷ [];
}

session_rows_are : (stories : Stories) → (after_all (session_run stories) (begun 1)).rows ≡ session_rows stories
session_rows_are stories = refl

session_asked : (stories : Stories) → root_asked (after_all (session_run stories) (begun 1)) ≡ true
session_asked stories = refl

session_done : (stories : Stories) (i : ℕ) → IsDone (after_all (session_run stories) (begun 1)) (obj (session_rows stories) i)
session_done stories zero = record { closed = λ h. absurd (never h); ended = refl; empty = session_0 stories }
session_done stories (suc zero) = record { closed = λ h. refl; ended = refl; empty = session_2 stories }
session_done stories (suc (suc zero)) = record { closed = λ h. absurd (never h); ended = refl; empty = session_1 stories }
session_done stories (suc (suc (suc i))) = record { closed = λ h. absurd (never h); ended = refl; empty = session_0 stories }

session_waits : (stories : Stories) (k : ℕ) (a : Bool) → end_place (pair (session_rows stories) k) a ≢ At WaitDelimiter
session_waits stories = waits_of_one (record { a_owner = 1; b_owner = 2; a = At Gone; b = At Gone }) (both_gone (record { a_owner = 1; b_owner = 2; a = At Gone; b = At Gone }) refl refl)

pub session : (stories : Stories) → LingeringSessionEnds stories
session stories = record {
  run_is = (
    record { may = (tt, refl); answered = record { joined = refl; kinds = tt; opened = refl; settled = refl; output = refl } },
    (
      record { may = (record { socket = refl; open_still = refl; lives = refl }, refl); answered = record { joined = refl; kinds = (tt, tt); opened = refl; settled = refl; output = refl } },
      (
        record { may = record { behind = _; oldest = refl; held = refl }; answered = record { joined = refl; kinds = (tt, tt); opened = refl; settled = refl; output = λ h. absurd (never h) } },
        (
          record { may = record { behind = _; oldest = refl; held = refl }; answered = record { joined = refl; kinds = tt; opened = refl; settled = refl; output = λ h. absurd (never h) } },
          (
            record { may = (record { socket = refl; open_still = refl; lives = refl }, refl); answered = record { joined = refl; kinds = tt; opened = refl; settled = refl; output = refl } },
            (
              record { may = (tt, refl); answered = record { joined = refl; kinds = tt; opened = refl; settled = refl; output = refl } },
              (
                record { may = record { behind = _; oldest = refl; held = refl }; answered = record { joined = refl; kinds = (tt, tt); opened = refl; settled = refl; output = λ h. absurd (never h) } },
                (
                  record { may = record { behind = _; oldest = refl; held = refl }; answered = record { joined = refl; kinds = tt; opened = refl; settled = refl; output = λ h. absurd (never h) } },
                  (
                    record { may = record { behind = _; oldest = refl; held = refl }; answered = record { joined = refl; kinds = tt; opened = refl; settled = refl; output = λ h. absurd (never h) } },
                    (
                      record { may = record { behind = _; oldest = refl; held = refl }; answered = record { joined = refl; kinds = tt; opened = refl; settled = refl; output = λ h. absurd (never h) } },
                      (
                        record { may = record { looked_at = refl; held = refl }; answered = record { joined = refl; kinds = tt; opened = refl; settled = refl; output = refl } },
                        (
                          record { may = record { behind = _; oldest = refl; held = refl }; answered = record { joined = refl; kinds = tt; opened = refl; settled = record { adds_up = refl; read_out = λ e. refl }; output = λ h. absurd (never h) } },
                          (
                            record { may = record { behind = _; oldest = refl; held = refl }; answered = record { joined = refl; kinds = tt; opened = refl; settled = record { adds_up = refl; read_out = λ e. refl }; output = λ h. (refl, refl) } },
                            (
                              record { may = (record { session = refl; may = refl }, refl); answered = record { joined = refl; kinds = tt; opened = refl; settled = refl; output = refl } },
                              (
                                record { may = record { behind = _; oldest = refl; held = refl }; answered = record { joined = refl; kinds = tt; opened = refl; settled = refl; output = λ h. absurd (never h) } },
                                (
                                  record { may = record { behind = _; oldest = refl; held = refl }; answered = record { joined = refl; kinds = tt; opened = refl; settled = refl; output = λ h. absurd (never h) } },
                                  tt,
                                ),
                              ),
                            ),
                          ),
                        ),
                      ),
                    ),
                  ),
                ),
              ),
            ),
          ),
        ),
      ),
    ),
  );
  ended_are = refl;
  settlements_are = refl;
  quiescent = rests (after_all (session_run stories) (begun 1)) (session_rows stories) (session_rows_are stories) (session_asked stories) (session_done stories) (session_waits stories);
}

read_out_0 : (stories : Stories) → (after_all (read_out_run stories) (begun 1)).boxes 0 ≡ []
read_out_0 stories = refl

read_out_2 : (stories : Stories) → (after_all (read_out_run stories) (begun 1)).boxes 2 ≡ []
read_out_2 stories = refl

read_out_3 : (stories : Stories) → (after_all (read_out_run stories) (begun 1)).boxes 3 ≡ []
read_out_3 stories = refl

read_out_rows_are : (stories : Stories) → (after_all (read_out_run stories) (begun 1)).rows ≡ crossed_rows stories
read_out_rows_are stories = refl

read_out_asked : (stories : Stories) → root_asked (after_all (read_out_run stories) (begun 1)) ≡ true
read_out_asked stories = refl

read_out_done : (stories : Stories) (i : ℕ) → IsDone (after_all (read_out_run stories) (begun 1)) (obj (crossed_rows stories) i)
read_out_done stories zero = record { closed = λ h. absurd (never h); ended = refl; empty = read_out_0 stories }
read_out_done stories (suc zero) = record { closed = λ h. refl; ended = refl; empty = read_out_2 stories }
read_out_done stories (suc (suc zero)) = record { closed = λ h. refl; ended = refl; empty = read_out_3 stories }
read_out_done stories (suc (suc (suc i))) = record { closed = λ h. absurd (never h); ended = refl; empty = read_out_0 stories }

pub read_out : (stories : Stories) → ReadOutSocketsEnd stories
read_out stories = record {
  run_is = (
    record { may = (tt, refl); answered = record { joined = refl; kinds = tt; opened = refl; settled = refl; output = refl } },
    (
      record { may = (tt, refl); answered = record { joined = refl; kinds = tt; opened = refl; settled = refl; output = refl } },
      (
        record { may = (record { socket = refl; open_still = refl; lives = refl }, refl); answered = record { joined = refl; kinds = tt; opened = refl; settled = refl; output = refl } },
        (
          record { may = (record { socket = refl; open_still = refl; lives = refl }, refl); answered = record { joined = refl; kinds = (tt, tt); opened = refl; settled = refl; output = refl } },
          (
            record { may = record { behind = _; oldest = refl; held = refl }; answered = record { joined = refl; kinds = (tt, tt); opened = refl; settled = refl; output = λ h. absurd (never h) } },
            (
              record { may = (record { socket = refl; open_still = refl; lives = refl }, refl); answered = record { joined = refl; kinds = tt; opened = refl; settled = refl; output = refl } },
              (
                record { may = record { behind = _; oldest = refl; held = refl }; answered = record { joined = refl; kinds = (tt, tt); opened = refl; settled = refl; output = λ h. absurd (never h) } },
                (
                  record { may = record { behind = _; oldest = refl; held = refl }; answered = record { joined = refl; kinds = tt; opened = refl; settled = refl; output = λ h. absurd (never h) } },
                  (
                    record { may = record { looked_at = refl; held = refl }; answered = record { joined = refl; kinds = tt; opened = refl; settled = refl; output = refl } },
                    (
                      record { may = record { behind = _; oldest = refl; held = refl }; answered = record { joined = refl; kinds = tt; opened = refl; settled = refl; output = λ h. absurd (never h) } },
                      (
                        record { may = (record { socket = refl; open_still = refl; lives = refl }, refl); answered = record { joined = refl; kinds = tt; opened = refl; settled = refl; output = refl } },
                        (
                          record { may = record { behind = _; oldest = refl; held = refl }; answered = record { joined = refl; kinds = (tt, tt); opened = refl; settled = refl; output = λ h. absurd (never h) } },
                          (
                            record { may = record { behind = _; oldest = refl; held = refl }; answered = record { joined = refl; kinds = tt; opened = refl; settled = record { adds_up = refl; read_out = λ e. refl }; output = λ h. absurd (never h) } },
                            (
                              record { may = record { behind = _; oldest = refl; held = refl }; answered = record { joined = refl; kinds = tt; opened = refl; settled = refl; output = λ h. absurd (never h) } },
                              (
                                record { may = record { behind = _; oldest = refl; held = refl }; answered = record { joined = refl; kinds = tt; opened = refl; settled = record { adds_up = refl; read_out = λ e. refl }; output = λ h. absurd (never h) } },
                                (
                                  record { may = record { behind = _; oldest = refl; held = refl }; answered = record { joined = refl; kinds = tt; opened = refl; settled = refl; output = λ h. absurd (never h) } },
                                  (
                                    record { may = record { behind = _; oldest = refl; held = refl }; answered = record { joined = refl; kinds = tt; opened = refl; settled = refl; output = λ h. absurd (never h) } },
                                    (
                                      record { may = (tt, refl); answered = record { joined = refl; kinds = tt; opened = refl; settled = refl; output = refl } },
                                      tt,
                                    ),
                                  ),
                                ),
                              ),
                            ),
                          ),
                        ),
                      ),
                    ),
                  ),
                ),
              ),
            ),
          ),
        ),
      ),
    ),
  );
  ended_are = refl;
  settlements_are = refl;
  quiescent = rests (after_all (read_out_run stories) (begun 1)) (crossed_rows stories) (read_out_rows_are stories) (read_out_asked stories) (read_out_done stories) (crossed_waits stories);
}

pub worked_runs : WorkedRuns
worked_runs = record { empty = empty; crossed = crossed; session = session; read_out = read_out }
