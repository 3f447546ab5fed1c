-- What the words of the code ask for.
use Rattle.sm_cross_command.specs.CrossWords.{CrossAsked}
use Rattle.sm_cross_command.specs.declared.words.CrossWords.{CrossWords}

abbrev pub cross_said : CrossWords → CrossAsked
cross_said w = record {
  models = w.models.now;
  service = w.service.now;
  front = w.front;
  back = w.back;
  host = w.host.now;
  back_file = w.back_file.now;
  out_file = w.out_file.now;
}
