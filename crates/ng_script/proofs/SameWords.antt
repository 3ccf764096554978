-- A word of ASCII characters in bytes and in characters.
use Rattle.std.proofs.Common.{◌≡◌, ◌∙◌, ℕ, List, ap, refl, codes}
use Rattle.std.proofs.lemmas.Str.{IsUtf8-from_ascii}
use Rattle.std.specs.Str.{chars, IsUtf8, bytes_eq}
use Rattle.ng_base.specs.Word.{IsWord}
use Rattle.ng_base.proofs.Ascii.{word_IsAscii, chars-word}
use Rattle.ng_base.proofs.Texts.{tested}
use Rattle.ng_script.specs.Verbs.{verb_named, is_event, flag_named}

pub same_word : (bs ds : List ℕ) → IsUtf8 bs → IsWord ds → bytes_eq bs ds ≡ bytes_eq (chars bs) ds
same_word bs ds u h = tested bs ds (bytes_eq bs ds) u (IsUtf8-from_ascii ds (word_IsAscii ds h)) refl ∙ ap (bytes_eq (chars bs)) (chars-word ds h)

pub same_verb : (bs : List ℕ) → IsUtf8 bs → verb_named bs ≡ verb_named (chars bs)
same_verb bs u =
    rw (
      same_word bs (codes "click") u refl,
      same_word bs (codes "fire") u refl,
      same_word bs (codes "type") u refl,
      same_word bs (codes "check") u refl,
      same_word bs (codes "eval") u refl,
      same_word bs (codes "at") u refl,
      same_word bs (codes "emit") u refl,
      same_word bs (codes "broadcast") u refl,
      same_word bs (codes "async") u refl,
      same_word bs (codes "probe") u refl,
      same_word bs (codes "destroy") u refl,
      same_word bs (codes "digest") u refl,
    ) refl

pub same_event : (bs : List ℕ) → IsUtf8 bs → is_event bs ≡ is_event (chars bs)
same_event bs u =
    rw (
      same_word bs (codes "click") u refl,
      same_word bs (codes "dblclick") u refl,
      same_word bs (codes "mousedown") u refl,
      same_word bs (codes "mouseup") u refl,
      same_word bs (codes "mouseover") u refl,
      same_word bs (codes "mouseout") u refl,
      same_word bs (codes "mousemove") u refl,
      same_word bs (codes "mouseenter") u refl,
      same_word bs (codes "mouseleave") u refl,
      same_word bs (codes "keydown") u refl,
      same_word bs (codes "keyup") u refl,
      same_word bs (codes "keypress") u refl,
      same_word bs (codes "submit") u refl,
      same_word bs (codes "focus") u refl,
      same_word bs (codes "blur") u refl,
      same_word bs (codes "copy") u refl,
      same_word bs (codes "cut") u refl,
      same_word bs (codes "paste") u refl,
    ) refl

pub same_flag : (bs : List ℕ) → IsUtf8 bs → flag_named bs ≡ flag_named (chars bs)
same_flag bs u = rw (same_word bs (codes "true") u refl, same_word bs (codes "false") u refl) refl
