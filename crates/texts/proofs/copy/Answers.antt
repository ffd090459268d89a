-- What is written over is the text's length from the place on.
use Rattle.std.proofs.Common.{◌≡◌, ◌+◌, ◌-◌, length, refl, ◌∙◌, arith}
use Rattle.std.proofs.lemmas.Slice.{put_mid-paste}
use Rattle.texts.proofs.Buffers.{paste_put}
use Rattle.texts.proofs.copy.Goals as goal

pub returns : goal.returns
returns c =
    let text = c.args.text.now in
    let at = c.args.at in
    let all : length text ≡ at + length text - at = omega arith in
    record {
      room = c.requires;
      buffer = put_mid-paste at (at + length text - at) c.args.out.now _ text (length text) c.copy_from_slice.ensures.after all refl ∙ paste_put text c.args.out.now at;
      place = refl;
    }
