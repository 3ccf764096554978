use Rattle.std.proofs.Common.{◌≡◌, ◌+◌, ◌∷◌, ◌∙◌, List, drop, sym, ap, subst, bytes_eq}
use Rattle.std.specs.List.{AllByRecursion}
use Rattle.indexmap.specs.IndexMap.{insert_entry}
use Rattle.ng_base.specs.Objects.{StandsAmong}
use Rattle.ng_store.specs.ObjectOf.{properties_of}
use Rattle.ng_store.specs.SetNames.{put_names, AreProperties}
use Rattle.ng_store.proofs.NamesSet.{names_from, put_sound}
use Rattle.ng_store.proofs.Sound.{Property}
use Rattle.ng_store.proofs.properties.Properties.put_all.Goals as goal

pub returns-in_default-clause-sound : goal.returns-in_default-clause-sound
returns-in_default-clause-sound c = λ count stand old. (c.loop-name.invariant.sound count stand old).0

pub returns-in_err-copied-clause-sound : goal.returns-in_err-copied-clause-sound
returns-in_err-copied-clause-sound c = λ count stand old. (c.loop-name.invariant.sound count stand old).0

pub returns-in_err-put-clause-sound : goal.returns-in_err-put-clause-sound
returns-in_err-put-clause-sound c = λ count stand old.
    subst (AreProperties count) (sym c.in_err-put.ensures.err) (c.loop-name.invariant.sound count stand old).0

pub loop-name-preserved : goal.loop-name-preserved
loop-name-preserved c =
    let i = c.loop-name.name-index in
    let ns = c.args.names.now in
    let n = c.name-item.result in
    let es = properties_of c.loop-name.self in
    let v = c.in-Some.value.now in
    let rest = c.in-Some.rest.now in
    let cut : drop i ns ≡ n ∷ drop (i + 1) ns = names_from ns i n c.loop-name-test.true c.name-item.is in
    let first : c.loop-name.left.now ≡ v ∷ rest = c.in-Some.ensures.cases.0 in
    let put : properties_of c.put.new.self ≡ insert_entry bytes_eq es n v = c.in_ok-put.ensures.ok ∙ ap (insert_entry bytes_eq es n) c.in_ok-copied.ensures in
    record {
      same = ap (λ (ps : List Property). put_names ps (drop (i + 1) ns) rest) put ∙ (sym (λ j. put_names es (cut j) (first j)) ∙ c.loop-name.invariant.same);
      sound = λ count stand old.
          let before = c.loop-name.invariant.sound count stand old in
          let all : AllByRecursion (StandsAmong count) (v ∷ rest) = subst (AllByRecursion (StandsAmong count)) first before.1 in
          (subst (AreProperties count) (sym put) (put_sound count es n v before.0 all.0), all.1);
    }

pub returns-clause-sound : goal.returns-clause-sound
returns-clause-sound c = λ count stand old. (c.loop-name.invariant.sound count stand old).0
