-- What tests and conditionals do, by the calls in them.
use Rattle.std.proofs.Common.{◌≡◌, ℕ, ℤ, Bool, true, List, [], None, Some, Result, Ok, Err, refl, sym, subst}
use Rattle.texml_token.specs.Token.{Token}
use Rattle.texml_token.specs.declared.fault_code.TheConstants.{FILE_ENDED}
use Rattle.texml_watch.specs.declared.record.Record.{Record}
use Rattle.texml_fixed.specs.declared.scaled.Scaled.{Scaled}
use Rattle.texml_expand.specs.declared.stop.Stop.{Stop}
use Rattle.texml_expand.specs.declared.stop.Stop.TheVariants as stop
use Rattle.texml_expand.specs.declared.conditional.Face.{Face}
use Rattle.texml_expand.specs.declared.gathering.Gathering.TheVariants.{Relation}
use Rattle.texml_input.specs.Next.{Taken}
use Rattle.texml_expand.specs.State.{State, chain, give}
use Rattle.texml_expand.specs.Branches.{Test, Choice}
use Rattle.texml_expand.specs.Calls.{Gift}
use Rattle.texml_expand.specs.Quantities.{dimension_text}
use Rattle.texml_expand.specs.Expand.{level}
use Rattle.texml_expand.specs.Conditionals.{open_test, face, face_now, next_face, two_faces, compares, first_code, amount, relation, compared, tested, chosen, none, conditional}
use Rattle.texml_expand.specs.Contract.{Outside, IsFaultAt}
use Rattle.texml_expand.specs.Held.{Held, place_of, world_in}
use Rattle.texml_expand.specs.Doing.{Does}
use Rattle.texml_expand.proofs.Lawful.{By, Lawful, lawful_give, lawful_fetch, lawful_scan, lawful_gather}
use Rattle.texml_expand.proofs.Looking.{lawful_needed}
use Rattle.texml_expand.proofs.Branching.{lawful_face_now, face_behind, lawful_face_behind, lawful_next_face, second_face, lawful_second_face, lawful_amount, lawful_relation, third, lawful_third, second, lawful_second, lawful_tested, lawful_chosen, choosing, lawful_choosing, testing, lawful_testing, lawful_open_test}
use Rattle.texml_expand.proofs.Doing.{does_now, does_by, does_fault, does_out, does_stop, does_then}

module _ {T : Type 0} (hear part : T → Record → T → Type 0) where
  -- What is seen of a token

  pub face_stops : (e : Stop) (old new : Held) (f g : Outside) (a b : T) → Does hear part (λ n. (level n).fetch) (Err e) old new f g a b → Does hear part (λ n. next_face (level n)) (Err e) old new f g a b
  face_stops e old new f g a b d = does_stop hear part (λ c. c.fetch) face_behind lawful_fetch lawful_face_behind e old new f g a b d

  pub face_ends : (e : Stop) (old mid new : Held) (f g : Outside) (a b : T) → Does hear part (λ n. (level n).fetch) (Ok None) old mid f g a b → IsFaultAt FILE_ENDED [] (place_of mid) e → new ≡ record mid { stop = Some e }
      → Does hear part (λ n. next_face (level n)) (Err e) old new f g a b
  face_ends e old mid new f g a b d fault is =
      does_then hear part (λ c. c.fetch) face_behind lawful_fetch lawful_face_behind None (Err e) old mid new f g g a b b d
      (does_fault hear part (face_behind None) (lawful_face_behind None) FILE_ENDED [] e mid new g b refl fault is d.holds.owns)

  pub face_out : (t : Taken) (e : Stop) (old mid new : Held) (f g : Outside) (a b : T) → Does hear part (λ n. (level n).fetch) (Ok (Some t)) old mid f g a b → e ≡ stop.NoMemory → new ≡ record mid { stop = Some stop.NoMemory }
      → Does hear part (λ n. next_face (level n)) (Err e) old new f g a b
  face_out t e old mid new f g a b d lack is =
      does_then hear part (λ c. c.fetch) face_behind lawful_fetch lawful_face_behind (Some t) (Err e) old mid new f g g a b b d (does_out hear part (face_behind (Some t)) (lawful_face_behind (Some t)) e mid new g b lack is d.holds.owns)

  pub face_does : (t : Taken) (x : Face) (old mid : Held) (f g : Outside) (a b : T) → Does hear part (λ n. (level n).fetch) (Ok (Some t)) old mid f g a b → x ≡ face (world_in mid) t → Does hear part (λ n. next_face (level n)) (Ok x) old mid f g a b
  face_does t x old mid f g a b d is =
      does_then hear part (λ c. c.fetch) face_behind lawful_fetch lawful_face_behind (Some t) (Ok x) old mid mid f g g a b b d
      (does_then hear part (λ c. give t) (λ t c. face_now t) (lawful_needed (Some t)) lawful_face_now t (Ok x) mid mid mid g g g b b b (does_now hear part t mid g b d.keeps.sound d.stops.kept d.holds.owns)
      (does_by hear part (λ (s : State). face s.world t) (λ y c. give y) x (Ok x) mid mid g g b b is (does_now hear part x mid g b d.keeps.sound d.stops.kept d.holds.owns)))

  module _ (x : Face) (old mid new : Held) (f g h : Outside) (a b c : T) (d : Does hear part (λ n. next_face (level n)) (Ok x) old mid f g a b) where
    pub faces_stop : (e : Stop) → Does hear part (λ n. next_face (level n)) (Err e) mid new g h b c → Does hear part (λ n. two_faces (level n)) (Err e) old new f h a c
    faces_stop e k =
        does_then hear part next_face second_face lawful_next_face lawful_second_face x (Err e) old mid new f g h a b c d (does_stop hear part next_face (λ y c. give (x, y)) lawful_next_face (λ y. lawful_give (x, y)) e mid new g h b c k)

    pub faces_do : (y : Face) → Does hear part (λ n. next_face (level n)) (Ok y) mid new g h b c → Does hear part (λ n. two_faces (level n)) (Ok (x, y)) old new f h a c
    faces_do y k =
        does_then hear part next_face second_face lawful_next_face lawful_second_face x (Ok (x, y)) old mid new f g h a b c d
        (does_then hear part next_face (λ y c. give (x, y)) lawful_next_face (λ y. lawful_give (x, y)) y (Ok (x, y)) mid new new g h h b c c k (does_now hear part (x, y) new h c k.keeps.sound k.stops.kept k.holds.owns))

  pub first_face_stops : (e : Stop) (old new : Held) (f g : Outside) (a b : T) → Does hear part (λ n. next_face (level n)) (Err e) old new f g a b → Does hear part (λ n. two_faces (level n)) (Err e) old new f g a b
  first_face_stops e old new f g a b d = does_stop hear part next_face second_face lawful_next_face lawful_second_face e old new f g a b d

  -- Comparing

  pub dimension_stops : (e : Stop) (old new : Held) (f g : Outside) (a b : T) → Does hear part (λ n. (level n).scan dimension_text []) (Err e) old new f g a b → Does hear part (λ n. amount (level n) true) (Err e) old new f g a b
  dimension_stops e old new f g a b d = does_stop hear part (λ c. c.scan dimension_text []) (λ d c. give d.0) (lawful_scan dimension_text) (λ d. lawful_give d.0) e old new f g a b d

  pub dimension_does : (v : Scaled) (old new : Held) (f g : Outside) (a b : T) → Does hear part (λ n. (level n).scan dimension_text []) (Ok v) old new f g a b → Does hear part (λ n. amount (level n) true) (Ok v.0) old new f g a b
  dimension_does v old new f g a b d =
      does_then hear part (λ c. c.scan dimension_text []) (λ d c. give d.0) (lawful_scan dimension_text) (λ d. lawful_give d.0) v (Ok v.0) old new new f g g a b b d (does_now hear part v.0 new g b d.keeps.sound d.stops.kept d.holds.owns)

  pub amount_as : (x y : Bool) (r : Result ℤ Stop) (old new : Held) (f g : Outside) (a b : T) → y ≡ x → Does hear part (λ n. amount (level n) x) r old new f g a b → Does hear part (λ n. amount (level n) y) r old new f g a b
  amount_as x y r old new f g a b e d = subst (λ z. Does hear part (λ n. amount (level n) z) r old new f g a b) (sym e) d

  pub relation_stops : (e : Stop) (old new : Held) (f g : Outside) (a b : T) → Does hear part (λ n. (level n).gather Relation []) (Err e) old new f g a b → Does hear part (λ n. relation (level n)) (Err e) old new f g a b
  relation_stops e old new f g a b d = does_stop hear part (λ c. c.gather Relation []) (λ list c. give (first_code list)) (lawful_gather Relation) (λ list. lawful_give (first_code list)) e old new f g a b d

  pub relation_does : (list : List Token) (old new : Held) (f g : Outside) (a b : T) → Does hear part (λ n. (level n).gather Relation []) (Ok list) old new f g a b → Does hear part (λ n. relation (level n)) (Ok (first_code list)) old new f g a b
  relation_does list old new f g a b d =
      does_then hear part (λ c. c.gather Relation []) (λ list c. give (first_code list)) (lawful_gather Relation) (λ list. lawful_give (first_code list)) list (Ok (first_code list)) old new new f g g a b b d
      (does_now hear part (first_code list) new g b d.keeps.sound d.stops.kept d.holds.owns)

  module _ (dimensions : Bool) where
    pub compared_first : (e : Stop) (old new : Held) (f g : Outside) (a b : T) → Does hear part (λ n. amount (level n) dimensions) (Err e) old new f g a b → Does hear part (λ n. compared (level n) dimensions) (Err e) old new f g a b
    compared_first e old new f g a b d = does_stop hear part (λ c. amount c dimensions) (second dimensions) (lawful_amount dimensions) (lawful_second dimensions) e old new f g a b d

    module _ (i : ℤ) (old mid : Held) (f g : Outside) (a b : T) (d : Does hear part (λ n. amount (level n) dimensions) (Ok i) old mid f g a b) where
      behind_first : (r : Result Bool Stop) (new : Held) (h : Outside) (c : T) → Does hear part (λ n. second dimensions i (level n)) r mid new g h b c → Does hear part (λ n. compared (level n) dimensions) r old new f h a c
      behind_first r new h c k = does_then hear part (λ c. amount c dimensions) (second dimensions) (lawful_amount dimensions) (lawful_second dimensions) i r old mid new f g h a b c d k

      pub compared_second : (e : Stop) (new : Held) (h : Outside) (c : T) → Does hear part (λ n. relation (level n)) (Err e) mid new g h b c → Does hear part (λ n. compared (level n) dimensions) (Err e) old new f h a c
      compared_second e new h c k = behind_first (Err e) new h c (does_stop hear part relation (third dimensions i) lawful_relation (lawful_third dimensions i) e mid new g h b c k)

      module _ (r : ℕ) (now new : Held) (h k : Outside) (c y : T) (u : Does hear part (λ n. relation (level n)) (Ok r) mid now g h b c) where
        pub compared_third : (e : Stop) → Does hear part (λ n. amount (level n) dimensions) (Err e) now new h k c y → Does hear part (λ n. compared (level n) dimensions) (Err e) old new f k a y
        compared_third e v =
            behind_first (Err e) new k y (does_then hear part relation (third dimensions i) lawful_relation (lawful_third dimensions i) r (Err e) mid now new g h k b c y u
            (does_stop hear part (λ c. amount c dimensions) (λ j c. give (compares r i j)) (lawful_amount dimensions) (λ j. lawful_give (compares r i j)) e now new h k c y v))

        pub compared_does : (j : ℤ) (holds : Bool) → holds ≡ compares r i j → Does hear part (λ n. amount (level n) dimensions) (Ok j) now new h k c y → Does hear part (λ n. compared (level n) dimensions) (Ok holds) old new f k a y
        compared_does j holds e v =
            subst (λ z. Does hear part (λ n. compared (level n) dimensions) (Ok z) old new f k a y) (sym e)
            (behind_first (Ok (compares r i j)) new k y (does_then hear part relation (third dimensions i) lawful_relation (lawful_third dimensions i) r (Ok (compares r i j)) mid now new g h k b c y u
            (does_then hear part (λ c. amount c dimensions) (λ j c. give (compares r i j)) (lawful_amount dimensions) (λ j. lawful_give (compares r i j)) j (Ok (compares r i j)) now new new h k k c y y v
            (does_now hear part (compares r i j) new k y v.keeps.sound v.stops.kept v.holds.owns))))

  -- Choices

  module _ {A : Type 0} (q : By A) (l : Lawful q) (choice : A → Choice) where
    pub choice_stops : (e : Stop) (old new : Held) (f g : Outside) (a b : T) → Does hear part (λ n. q (level n)) (Err e) old new f g a b → Does hear part (λ n s. chain (q (level n) s) (λ v. give (choice v))) (Err e) old new f g a b
    choice_stops e old new f g a b d = does_stop hear part q (λ v c. give (choice v)) l (λ v. lawful_give (choice v)) e old new f g a b d

    pub choice_does : (v : A) (x : Choice) (old new : Held) (f g : Outside) (a b : T) → x ≡ choice v → Does hear part (λ n. q (level n)) (Ok v) old new f g a b → Does hear part (λ n s. chain (q (level n) s) (λ v. give (choice v))) (Ok x) old new f g a b
    choice_does v x old new f g a b e d =
        subst (λ y. Does hear part (λ n s. chain (q (level n) s) (λ v. give (choice v))) (Ok y) old new f g a b) (sym e)
        (does_then hear part q (λ v c. give (choice v)) l (λ v. lawful_give (choice v)) v (Ok (choice v)) old new new f g g a b b d (does_now hear part (choice v) new g b d.keeps.sound d.stops.kept d.holds.owns))

  pub tested_as : (x y : Test) (r : Result Choice Stop) (old new : Held) (f g : Outside) (a b : T) → y ≡ x → Does hear part (λ n. tested (level n) x) r old new f g a b → Does hear part (λ n. tested (level n) y) r old new f g a b
  tested_as x y r old new f g a b e d = subst (λ z. Does hear part (λ n. tested (level n) z) r old new f g a b) (sym e) d

  -- Conditionals

  module _ (test : Test) where
    pub unopened : (e : Stop) (old new : Held) (f g : Outside) (a b : T) → Does hear part (λ n. open_test) (Err e) old new f g a b → Does hear part (λ n. conditional (level n) test) (Err e) old new f g a b
    unopened e old new f g a b d = does_stop hear part (λ c. open_test) (testing test) lawful_open_test (lawful_testing test) e old new f g a b d

    module _ (at : ℕ) (old mid : Held) (f g : Outside) (a b : T) (d : Does hear part (λ n. open_test) (Ok at) old mid f g a b) where
      opened : (r : Result Gift Stop) (new : Held) (h : Outside) (c : T) → Does hear part (λ n. testing test at (level n)) r mid new g h b c → Does hear part (λ n. conditional (level n) test) r old new f h a c
      opened r new h c k = does_then hear part (λ c. open_test) (testing test) lawful_open_test (lawful_testing test) at r old mid new f g h a b c d k

      pub untested : (e : Stop) (new : Held) (h : Outside) (c : T) → Does hear part (λ n. tested (level n) test) (Err e) mid new g h b c → Does hear part (λ n. conditional (level n) test) (Err e) old new f h a c
      untested e new h c k = opened (Err e) new h c (does_stop hear part (λ c. tested c test) (choosing at) (lawful_tested test) (lawful_choosing at) e mid new g h b c k)

      module _ (choice : Choice) (now new : Held) (h k : Outside) (c y : T) (u : Does hear part (λ n. tested (level n) test) (Ok choice) mid now g h b c) where
        pub unchosen : (e : Stop) → Does hear part (λ n. chosen at choice) (Err e) now new h k c y → Does hear part (λ n. conditional (level n) test) (Err e) old new f k a y
        unchosen e v =
            opened (Err e) new k y (does_then hear part (λ c. tested c test) (choosing at) (lawful_tested test) (lawful_choosing at) choice (Err e) mid now new g h k b c y u
            (does_stop hear part (λ c. chosen at choice) (λ v c. give none) (lawful_chosen at choice) (λ v. lawful_give none) e now new h k c y v))

        pub conditional_does : Does hear part (λ n. chosen at choice) (Ok tt) now new h k c y → Does hear part (λ n. conditional (level n) test) (Ok none) old new f k a y
        conditional_does v =
            opened (Ok none) new k y (does_then hear part (λ c. tested c test) (choosing at) (lawful_tested test) (lawful_choosing at) choice (Ok none) mid now new g h k b c y u
            (does_then hear part (λ c. chosen at choice) (λ v c. give none) (lawful_chosen at choice) (λ v. lawful_give none) tt (Ok none) now new new h k k c y y v (does_now hear part none new k y v.keeps.sound v.stops.kept v.holds.owns)))
